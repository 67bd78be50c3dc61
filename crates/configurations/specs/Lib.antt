-- Configurations in words, and what the code's arrays hold of them.
pub mod Packing
pub mod inside
