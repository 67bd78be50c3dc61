-- What the calls for C answer beside the answers of the crates below.
pub mod Version
