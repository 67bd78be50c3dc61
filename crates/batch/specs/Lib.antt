-- A truck's notes in one call.
pub mod Batches
pub mod Contract
pub mod inside
