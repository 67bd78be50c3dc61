-- The plain reading.
pub mod Contract
pub mod inside
