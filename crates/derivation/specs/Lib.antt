-- Derivations over a note by positions: runs of a stack of places, the table that decides them, the machine that reads, and where a note goes wrong.
pub mod Runs
pub mod Cells
pub mod Machine
pub mod Viable
pub mod ReachRounds
pub mod Chosen
pub mod Space
pub mod Gate
pub mod Plain
pub mod Demand2
pub mod Cases
pub mod inside
