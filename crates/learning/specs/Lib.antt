-- What the code's answers tell.
pub mod inside
