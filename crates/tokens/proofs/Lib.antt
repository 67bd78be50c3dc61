-- Laws on what the program keeps.
pub mod KeptLaws
