-- Why some nonterminal can always be placed next.
pub mod PlacingLaws
pub mod StuckLaws
pub mod SweepLaws
