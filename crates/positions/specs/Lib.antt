-- Sets of positions of a note.
pub mod inside
