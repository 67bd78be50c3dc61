-- Laws for the calls of C.
pub mod Answers
