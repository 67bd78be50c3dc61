-- Where moves lead, worked out by rounds.
pub mod Corners
pub mod inside
