-- What a line says.
pub mod Line
pub mod Kept
pub mod Headed
pub mod inside
