-- An audit for caches that another program wrote.
pub mod Auditing
pub mod Contract
pub mod inside
