-- The number and place of a measure are those of the check, its sizes those of the compiled grammar, by which refusals 9 and 11 go; and three grammars
-- measured.
use mathlib.Core.Path.{◌≡◌, refl, ap, ◌∙◌}
use mathlib.Core.List.{List, [], ◌∷◌}
use Prim.Native.Nat.{ℕ}
use lib.ListN.{length}
use Rattle.std.specs.Prelude.{Ok, Err}
use Rattle.base.proofs.Booleans.{clash}
use Rattle.number.specs.declared.Refusal.{Refusal}
use Rattle.grammar.specs.Decode.{Rules, Mark, Parsed, got, refused, decode}
use Rattle.grammar.specs.Grammar.{Grammar, compile}
use Rattle.grammar.proofs.PlaceLaws.{length-starts_all}
use Rattle.soundness.specs.Verdict.{Verdict}
use Rattle.soundness.specs.Check.{check_of, verdict_number, verdict_place}
use Rattle.soundness.proofs.CheckLaws.{check-refuses}
use Rattle.measuring.specs.declared.measuring.Sizes.{Sizes}
use Rattle.measuring.specs.Measuring.{Measure, sizes_of, measured, measured_as, measure_number, measure_place, measure_of, figures, figures_of}

-- a measure has the number and the place of a verdict
abbrev pub Agrees : Measure → Verdict → Type 0
Agrees m v = (measure_number m ≡ verdict_number v) × (measure_place m ≡ verdict_place v)

by-verdict : (v : Verdict) (r : Rules) → Agrees (measured v r) v
by-verdict (Ok tt) r = (refl, refl)
by-verdict (Err f) r = (refl, refl)

by-parsed : (v : Verdict) (d : Parsed Rules) → ((f : Refusal) → d ≡ refused f → v ≡ Err f) → Agrees (measured_as v d) v
by-parsed v (got r m) h = by-verdict v r
by-parsed v (refused f) h = rw (h f refl) (refl, refl)

pub measure-checks : (s : List ℕ) → Agrees (measure_of s) (check_of s)
unfolding measure_of
measure-checks s = by-parsed (check_of s) (decode s) (check-refuses s)

-- the sizes of a compiled grammar
pub record SizesOf (g : Grammar) (z : Sizes) : Type 0 where
  pub kinds : g.kinds ≡ z.kinds
  pub nonterminals : length g.starts ≡ z.nonterminals
  pub places : g.size ≡ z.places

said : (v : Verdict) (d : Parsed Rules) (z : Sizes) → measured_as v d ≡ Ok z → (r : Rules) (m : Mark) → d ≡ got r m → sizes_of r ≡ z
said (Ok tt) (got r' m') z e r m q = let y : r' ≡ r = cc in rw (← y) (cc)
said (Err f) (got r' m') z e r m q = clash (cc)
said v (refused f) z e r m q = clash (cc)

pub measured-sizes : (s : List ℕ) (z : Sizes) → measure_of s ≡ Ok z → (r : Rules) (m : Mark) → decode s ≡ got r m → SizesOf (compile r) z
unfolding measure_of sizes_of compile
measured-sizes s z e r m q =
    let y : sizes_of r ≡ z = said (check_of s) (decode s) z e r m q in
    record {
      kinds = ap (λ (x : Sizes). x.kinds) y;
      nonterminals = length-starts_all 0 r.productions ∙ ap (λ (x : Sizes). x.nonterminals) y;
      places = ap (λ (x : Sizes). x.places) y;
    }

-- grammar G1; no bytes; a grammar that is left recursive behind an empty symbol
pub measured-g1 : figures_of (measure_of (0x02 ∷ 0x02 ∷ 0x02 ∷ 0x01 ∷ 0x03 ∷ 0x02 ∷ 0x03 ∷ 0x04 ∷ 0x02 ∷ 0x01 ∷ 0x02 ∷ 0x02 ∷ 0x02 ∷ 0x04 ∷ []))
    ≡ figures 0 0 2 2 10
unfolding measure_of
measured-g1 = refl

pub measured-none : figures_of (measure_of []) ≡ figures 1 0 0 0 0
unfolding measure_of
measured-none = refl

pub measured-recursive : figures_of (measure_of (0x01 ∷ 0x02 ∷ 0x02 ∷ 0x03 ∷ 0x03 ∷ 0x01 ∷ 0x02 ∷ 0x01 ∷ 0x02 ∷ 0x01 ∷ 0x00 ∷ []))
    ≡ figures 7 0 0 0 0
unfolding measure_of
measured-recursive = refl
