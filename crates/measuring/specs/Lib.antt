-- What measuring a grammar answers.
pub mod Measuring
