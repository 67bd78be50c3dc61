-- FIRST and FOLLOW.
pub mod FirstFollow
pub mod inside
