-- The derivation cells in the working space, and going on from a set of positions by them.
pub mod inside
