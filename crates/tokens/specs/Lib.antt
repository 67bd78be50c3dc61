-- How much of its input the program keeps.
pub mod Sizes
