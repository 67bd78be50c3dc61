-- Laws on the cells' words and on reading them.
pub mod Spots
pub mod ThroughLaws
pub mod GatherLaws
pub mod MatchLaws
