-- Laws of the lowest alternative that serves, one subject a file: by the cells, with the frames' sets (RestLaws to WaitingLaws); the stack as ends on demand
-- ask it (UprightLaws, UprightMoves) and what each stage of a reading says (StageLaws, AidLaws); the choice itself (PickLaws, PickStarts), and the note as a
-- whole (JudgeLaws).
pub mod RestLaws
pub mod AskLaws
pub mod ServeLaws
pub mod SettleLaws
pub mod FloorLaws
pub mod TableLaws
pub mod WaitingLaws
pub mod UprightLaws
pub mod UprightMoves
pub mod StageLaws
pub mod AidLaws
pub mod JudgeLaws
pub mod PickLaws
pub mod PickStarts
pub mod RunLaws
