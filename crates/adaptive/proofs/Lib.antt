-- Laws of the adaptive reading, one subject a file.
pub mod Standing
pub mod ChoiceLaws
pub mod NoteLaws
pub mod QuickLaws
pub mod ProceedLaws
pub mod ProceedOne
pub mod TeachLaws
pub mod AgreementLaws
