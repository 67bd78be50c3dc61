-- Laws on the gate.
pub mod PassingLaws
