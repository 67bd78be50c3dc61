-- Laws on the cache's words, one subject a file.
pub mod WordLaws
pub mod PackSteps
pub mod SizeLaws
pub mod BeginSteps
pub mod BeginMeans
pub mod StandingLaws
pub mod SlotLaws
