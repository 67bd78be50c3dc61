-- Laws of closures: the rounds are the textbook's, and the loops are the rounds.
pub mod Below
pub mod Deriving
pub mod ClosureSteps
pub mod NoteSteps
pub mod RoundSteps
