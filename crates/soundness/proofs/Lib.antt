-- Laws on soundness, one subject a file.
pub mod LowestLaws
pub mod OwnLaws
pub mod Judging
pub mod CheckLaws
pub mod OrderLaws
pub mod VerdictLaws
pub mod TableLaws
pub mod FirstBytes
