-- What the proofs of the code rest on: none of it has to be believed.
pub mod Asked
