-- What every reading may rely on in the tables that the check of a sound grammar left.
use Rattle.std.specs.Prelude.{◌≡◌, List, ℕ}
use Rattle.grammar.specs.Decode.{Rules}
use Rattle.grammar.specs.Grammar.{compile, Limited, of_places}
use Rattle.grammar.specs.inside.Tables.{grammar_in, TablesFit}
use Rattle.closures.specs.Textbook.{LeftRecursive}
use Rattle.corners.specs.Corners.{Cornered}

-- tables that say rules within the limits, none of whose nonterminals is left recursive, and that hold the left corners of all
pub record Ready (t : List ℕ) : Type 0 where
  pub rules : Rules
  pub limited : Limited rules
  pub says : grammar_in t ≡ compile rules
  pub fits : TablesFit t
  pub straight : (a : ℕ) → ¬ LeftRecursive (of_places (compile rules)) a
  pub corners : Cornered t
