-- Laws on the audit's tests, one subject a file: what each decides, and how the code makes it.
pub mod ZeroLaws
pub mod KeptLaws
pub mod SlotLaws
pub mod SingleLaws
pub mod RecordLaws
pub mod UnusedLaws
pub mod CoherentLaws
pub mod KeptSteps
pub mod LayoutSteps
pub mod StateSteps
pub mod RecordSteps
