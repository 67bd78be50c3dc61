-- The adaptive reading as a definition: the one machine with a chooser that predicts, its refusals, what it teaches the cache, and what lists of readings
-- answer and leave.
pub mod Chooser
pub mod Quick
pub mod Calls
pub mod Proceeding
pub mod Teaching
pub mod inside
