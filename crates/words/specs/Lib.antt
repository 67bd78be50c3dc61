-- The words of the lookahead cache: by named fields, how they begin, and what says that they have begun.
pub mod Layout
pub mod Words
pub mod Begin
pub mod Beginning
pub mod inside
