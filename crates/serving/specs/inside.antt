-- What the proofs of the code rest on, step by step: none of it has to be believed.
pub mod Sets
pub mod Serving
pub mod Aids
pub mod Judging
pub mod Running
