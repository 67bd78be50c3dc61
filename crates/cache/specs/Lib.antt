-- The lookahead cache: what is recorded, what it predicts, and which words are coherent.
pub mod Recording
pub mod Predictor
pub mod Predict
pub mod Coherent
pub mod Lessons
pub mod inside
