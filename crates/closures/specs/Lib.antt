-- What makes a grammar sound, in the textbook's words, and which nonterminals derive, worked out by rounds.
pub mod Textbook
pub mod Closures
pub mod inside
