-- The check: what it answers, and what it leaves in the tables.
pub mod Verdict
pub mod Check
pub mod Verdicts
pub mod Table
pub mod inside
