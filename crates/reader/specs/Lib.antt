-- What the one pass over a grammar does.
pub mod Counting
pub mod inside
