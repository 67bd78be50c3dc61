-- Typed lines become tokens.
pub mod Classes
pub mod Bytes
pub mod Listing
pub mod Items
pub mod Splitting
pub mod Contract
pub mod Cutting
pub mod List
pub mod Splits
pub mod inside
