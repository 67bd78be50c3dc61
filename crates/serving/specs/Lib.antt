-- The lowest alternative that serves: the frames' sets, made right when they are first needed, and what a choice leaves.
pub mod inside
