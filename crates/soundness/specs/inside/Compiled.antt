-- What a check leaves in the tables of a grammar that the bytes say.
use Rattle.std.specs.Prelude.{◌≡◌, List, ℕ, Ok}
use Rattle.grammar.specs.Decode.{Rules, Mark, got, decode}
use Rattle.grammar.specs.Grammar.{compile}
use Rattle.grammar.specs.inside.Tables.{grammar_in, TablesFit, SameTables}
use Rattle.corners.specs.Corners.{Cornered}
use Rattle.soundness.specs.Check.{check_of}
use Rattle.soundness.specs.Verdict.{Verdict}

-- the verdict v on tables t₀ is w, and tables t are left: they say the same, and hold the left corners
pub record Judgement (v w : Verdict) (t₀ t : List ℕ) : Type 0 where
  pub verdict : v ≡ w
  pub kept : SameTables t₀ t
  pub cornered : Cornered t

-- the verdict on bytes s, and the tables t: where the bytes say rules, the tables say the same, and of a sound grammar they hold the left corners
pub record Compiled (s : List ℕ) (v : Verdict) (t : List ℕ) : Type 0 where
  pub verdict : v ≡ check_of s
  pub says : (r : Rules) (m : Mark) → decode s ≡ got r m → grammar_in t ≡ compile r
  pub fits : (r : Rules) (m : Mark) → decode s ≡ got r m → TablesFit t
  pub cornered : v ≡ Ok tt → Cornered t
