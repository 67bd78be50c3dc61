-- Laws of the search, one subject a file. Words: where they stand and what they say (WordLaws), as they are cleared (ClearLaws), tags (TagWordLaws), a pair
-- that is stored (StoreLaws). What is known of a pair: ReplyLaws, Answers. Along a production by single ends (WayLaws), over one symbol from a set of
-- positions (OverLaws), along a production from one (WalkSteps). Ends that are added: AddLaws. A pair that is tried: an alternative that goes on from several
-- ends (TryLaws), the loop over all alternatives (AttemptLaws). The loop over the pairs that wait: SettleSteps.
pub mod WordLaws
pub mod ClearLaws
pub mod TagWordLaws
pub mod StoreLaws
pub mod ReplyLaws
pub mod Answers
pub mod WayLaws
pub mod MeterLaws
pub mod OverLaws
pub mod WalkSteps
pub mod AddLaws
pub mod TryLaws
pub mod AttemptLaws
pub mod SettleSteps
