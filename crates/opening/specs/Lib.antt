-- Down the stack by ends on demand. Answers do not rest on any of it.
pub mod inside
