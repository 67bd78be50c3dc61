-- Laws on where a note goes wrong, one subject a file.
pub mod AddLaws
pub mod EnterLaws
pub mod StepLaws
pub mod PassLaws
pub mod FoundLaws
pub mod LastLaws
