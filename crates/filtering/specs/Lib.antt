-- Ends on demand: derivations that FIRST and FOLLOW let pass, and what is kept of their ends. Answers do not rest on any of it.
pub mod inside
