-- Laws on the cells of one position.
pub mod DerivedLaws
pub mod LastLaws
pub mod RowLaws
