-- What the proofs of the code rest on, step by step: none of it has to be believed.
pub mod Words
pub mod Places
pub mod Budget
pub mod Searching
pub mod Ways
pub mod Walks
pub mod Trials
