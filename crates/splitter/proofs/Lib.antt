-- Laws: the table of classes; the steps of the code; the cutting of a line, the kinds of its items and the list; what splitting answers.
pub mod TableLaws
pub mod LentLaws
pub mod RunLaws
pub mod WordLaws
pub mod IndexLaws
pub mod ListLaws
pub mod ForeignLaws
pub mod ItemLaws
pub mod SplitLaws
pub mod CuttingLaws
pub mod WovenLaws
pub mod KindLaws
pub mod IsListLaws
pub mod SplitsLaws
