-- Laws on measuring, one subject a file.
pub mod SizeLaws
pub mod CheckedLaws
