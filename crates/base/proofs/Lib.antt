-- Shared laws, one subject a file.
pub mod Booleans
pub mod Bits
pub mod Lists
pub mod Fixpoint
pub mod Lowest
pub mod AllLaws
