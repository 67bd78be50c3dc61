-- How the quick reading chooses, and what a choice leaves.
pub mod inside
