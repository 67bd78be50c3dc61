-- What the code's moves rely on.
pub mod inside
