-- Laws on the closure as the code makes it, one subject a file.
pub mod FollowLaws
pub mod WorklistLaws
