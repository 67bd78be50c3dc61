-- Laws on looking along productions, and on judging nonterminals one after the other.
pub mod LeadLaws
pub mod InRange
pub mod PlaceLaws
pub mod BegunLaws
pub mod LookLaws
pub mod JudgedLaws
