-- What the proofs of the code rest on, step by step: none of it has to be believed.
pub mod Choosers
pub mod Reach
pub mod Steps
pub mod Visits
pub mod Ready
pub mod Entries
pub mod Frames
pub mod BigSteps
