-- Laws on derivations that FIRST and FOLLOW let pass, one subject a file.
--   A, the filter: it only drops (A1, FilterLaws); what derives some tokens starts with the first of them (A2), and a place begins with the token there or
--   derives nothing (A3, both StartLaws); what is read over an open stack may follow the nonterminal above it (A4), so a run to the note's end is a filtered
--   derivation of its top place and a run of the rest (A5, both FilterLaws). The machine's stacks are open: StackLaws, FrameLaws.
--   B, ends: of a place, by the token there, by another, at the production's end, over a nonterminal (B1 to B4, EndLaws, as a loop goes TurnLaws; for sets
--   of positions LeadLaws); of a pair whose nonterminal does not start with the token there (B5, AloneLaws); of a pair, as its tag tells them when the ends
--   of all alternatives were added (B6, TagLaws, PairLaws, one end at a time PartLaws). They lie within the note: InsideLaws. What is answered of a pair is
--   right: KnownLaws.
--   C, choices: an open stack reads the rest exactly if ends lead down it (C1), so the lowest alternative is found (C2, both OpensLaws); a single end names
--   it (C3, SingleLaws).
--   D, answers: a note is a sentence if its length is an end of the start symbol from 0 (D1, SentenceLaws); one that is none goes wrong as far as the search
--   came (D2, WrongLaws: whatever the note reaches is walked, CoverLaws, and whatever is walked is reached, WalkLaws, down the machine's stack PathLaws). A
--   pair that is worked out is stored, and all that holds stays: SettleLaws.
--   E, a second derivation: there is one exactly if somewhere along the first another alternative serves, which a single end's tag tells (E1, SecondLaws).
pub mod StartLaws
pub mod FilterLaws
pub mod StackLaws
pub mod EndLaws
pub mod InsideLaws
pub mod AloneLaws
pub mod TagLaws
pub mod PairLaws
pub mod PartLaws
pub mod KnownLaws
pub mod OpensLaws
pub mod SingleLaws
pub mod SentenceLaws
pub mod CoverLaws
pub mod WalkLaws
pub mod WrongLaws
pub mod LeadLaws
pub mod TurnLaws
pub mod PathLaws
pub mod FrameLaws
pub mod SettleLaws
pub mod SecondLaws
