-- Laws on configurations in words, one subject a file.
pub mod PackLaws
pub mod UnpackLaws
pub mod WordLaws
pub mod ExactLaws
pub mod FitLaws
pub mod CompareLaws
pub mod HeldLaws
pub mod SearchLaws
pub mod GrowLaws
pub mod GrowSteps
pub mod FacingLaws
pub mod InsertLaws
pub mod SortLaws
pub mod StandLaws
