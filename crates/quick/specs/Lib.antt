-- The quick reading.
pub mod Contract
pub mod inside
