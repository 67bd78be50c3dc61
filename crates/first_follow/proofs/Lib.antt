-- Laws of FIRST and FOLLOW.
pub mod ProductionLaws
pub mod SkipLaws
pub mod LinedLaws
pub mod PassLaws
pub mod TurnLaws
pub mod JoinLaws
pub mod MarkLaws
pub mod ExactLaws
pub mod TextbookFirst
