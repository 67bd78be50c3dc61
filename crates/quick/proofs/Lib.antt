-- Laws of the quick reading: the loop (RunLaws), notes that are not accepted (QuickRefuse), the reading as a whole (ReadingLaws), and readings told in
-- numbers (ToldLaws).
pub mod RunLaws
pub mod QuickRefuse
pub mod ReadingLaws
pub mod ToldLaws
