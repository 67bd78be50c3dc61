-- Ends on demand: what is kept in words, and what each function leaves there. Answers do not rest on any of it.
pub mod inside
