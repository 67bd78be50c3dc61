-- The numbers that a grammar is written in, and the refusals.
pub mod Types
pub mod Refusals
pub mod Answers
pub mod Fetching
pub mod Number
pub mod Forms
