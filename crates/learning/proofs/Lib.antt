-- Laws on the rules and the outcomes as the code works them out, one subject a file.
pub mod JudgeLaws
pub mod StartLaws
pub mod AdvanceLaws
pub mod OutcomeLaws
pub mod StackLaws
