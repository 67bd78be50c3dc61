-- What the proofs of the code rest on, step by step: none of it has to be believed.
pub mod Ordered
pub mod Tables
pub mod Production
