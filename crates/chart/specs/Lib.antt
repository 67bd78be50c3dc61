-- What the functions on the cells of one position give.
pub mod inside
