-- What the proofs of the code rest on, step by step: none of it has to be believed.
pub mod Frames
pub mod Choice
pub mod Space
pub mod Moves
pub mod Waits
pub mod Ending
pub mod Going
