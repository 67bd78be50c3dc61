-- The sets of positions of the place of refusal 10.
pub mod inside
