-- Laws of batches, one subject a file.
pub mod FitLaws
pub mod PartLaws
pub mod TurnLaws
pub mod ReadingLaws
