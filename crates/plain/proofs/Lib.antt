-- Laws of the plain reading: some alternative serves at every call (PlainServes), the loop (RunLaws), and the reading as a whole (ReadingLaws).
pub mod PlainServes
pub mod RunLaws
pub mod ReadingLaws
