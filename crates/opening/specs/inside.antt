-- What the proofs of the code rest on, step by step: none of it has to be believed.
pub mod Marks
pub mod Leading
pub mod Stacks
pub mod Descent
pub mod Choice
