-- Laws of moves: the rounds are the textbook's, and the loops are the rounds.
pub mod LeftRecursion
pub mod LeftSteps
pub mod RuleLaws
pub mod FirstLaws
pub mod Warshall
pub mod EndingLaws
pub mod WidenLaws
pub mod StoreLaws
