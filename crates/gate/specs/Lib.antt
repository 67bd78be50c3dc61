-- The gate before every reading.
pub mod Reading
pub mod inside
