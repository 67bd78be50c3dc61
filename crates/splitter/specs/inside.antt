-- What the proofs of the code rest on, step by step: none of it has to be believed.
pub mod Index
pub mod Cut
pub mod Listed
