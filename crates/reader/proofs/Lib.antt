-- Laws on the one pass, one subject a file.
pub mod PassSteps
pub mod PassLaws
pub mod CountLaws
pub mod BesideLaws
pub mod DecidingLaws
pub mod TableLaws
pub mod FitsLaws
pub mod ReadLaws
