-- The machine's steps in the working space: frames, which alternatives serve, moves that need no choice, and calls.
pub mod inside
