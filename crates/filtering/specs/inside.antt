-- What the proofs of the code rest on, step by step: none of it has to be believed.
pub mod Beginnings
pub mod Filtered
pub mod OpenStacks
pub mod Tags
pub mod Cover
pub mod Turns
pub mod Known
pub mod Settling
pub mod Serving
