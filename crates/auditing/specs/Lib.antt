-- Which words of a cache are coherent, as a test.
pub mod Coherence
pub mod inside
