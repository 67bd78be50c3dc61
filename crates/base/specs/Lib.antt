-- Shared definitions: bits of numbers, lists, rounds of an operator, searches.
pub mod Bits
pub mod Rounds
pub mod Lists
pub mod Search
