-- The nonterminals in an order: each behind its left corners.
pub mod inside
