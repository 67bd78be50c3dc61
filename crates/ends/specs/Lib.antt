-- Where the productions that begin at one position end.
pub mod inside
