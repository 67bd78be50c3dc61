-- Laws of the way down the stack, one subject a file: a stack as words change (KeptLaws), marks (MarkLaws); a production's ends, what is needed being worked
-- out (LeadLaws), one frame (FrameLaws), all of them from one position (DescentLaws) and from a set (ScatterLaws); the lowest alternative (SeekLaws,
-- ChoiceLaws), the one that derives the empty row (EmptyLaws) and what is told at once (DirectLaws).
pub mod KeptLaws
pub mod MarkLaws
pub mod LeadLaws
pub mod FrameLaws
pub mod DescentLaws
pub mod ScatterLaws
pub mod EmptyLaws
pub mod SeekLaws
pub mod ChoiceLaws
pub mod DirectLaws
