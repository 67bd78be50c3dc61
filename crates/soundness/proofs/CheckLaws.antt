-- The check's verdict on bytes means what the textbook says of the rules that they say, and is the only one that does.
use mathlib.Core.Path.{◌≡◌, refl, ap, subst, subst₂}
use mathlib.Core.Logic.{◌↔◌}
use mathlib.Core.Bool.{Bool, true, false}
use mathlib.Core.Option.{Option}
use mathlib.Core.List.{List}
use Prim.Native.Nat.{ℕ, ◌<◌}
use native.Mathlib.Omega.{arith}
use lib.ListN.{length}
use Rattle.std.specs.Prelude.{Ok, Err}
use Rattle.base.specs.Search.{LowestIs, this, nothing}
use Rattle.base.proofs.Booleans.{true→T, false→¬T}
use Rattle.number.specs.declared.Refusal.{Refusal}
use Rattle.number.specs.declared.Refusal.TheVariants.{Unproductive, LeftRecursive as Recursive}
use Rattle.grammar.specs.Decode.{Rules, Mark, got, refused, decode}
use Rattle.grammar.specs.Grammar.{Grammar, compile, Limited, of_places}
use Rattle.grammar.specs.Derivation.{Syntax, of_rules}
use Rattle.grammar.proofs.CompileLaws.{same-syntax}
use Rattle.grammar.proofs.PlaceLaws.{length-starts_all}
use Rattle.reader.proofs.ReadLaws.{decode-limited}
use Rattle.closures.specs.Textbook.{Productive, LeftRecursive}
use Rattle.closures.specs.Closures.{productive?}
use Rattle.closures.proofs.Deriving.{productive-iff}
use Rattle.soundness.specs.Verdict.{Verdict}
use Rattle.soundness.specs.Check.{lowest_unproductive, lowest_left_recursive, refuse_at, unproductive_of, left_recursive_of, or_else, judge_of, check_of}
use Rattle.soundness.specs.Verdicts.{IsSound, Barren, Lowest, Means, sound, barren, recursive}
use Rattle.soundness.proofs.LowestLaws.{lowest-unproductive, lowest-left-recursive}

-- what is not barren is productive, as the search decides
productive-or-not : (g : Grammar) (a : ℕ) → ¬ (¬ Productive (of_places g) a) → Productive (of_places g) a
productive-or-not g a h = go (productive? g a) refl
  where
    go : (b : Bool) → productive? g a ≡ b → Productive (of_places g) a
    go true e = (productive-iff g a).0 (true→T (productive? g a) e)
    go false e = absurd (h (λ x. false→¬T (productive? g a) e ((productive-iff g a).1 x)))

module _ (r : Rules) (limits : Limited r) where
  -- what holds of the nonterminals and the syntax of the table of places holds of those of the rules
  carried : (P : ℕ → Syntax → Type 0) → P (length (compile r).starts) (of_places (compile r)) → P (length r.productions) (of_rules r)
  unfolding compile
  carried P x = subst₂ P (length-starts_all 0 r.productions) (same-syntax r limits) x

  pub barren-lowest : LowestIs (Barren r) (lowest_unproductive (compile r))
  barren-lowest = carried (λ n g. LowestIs (λ a. (a < n) × ¬ Productive g a) (lowest_unproductive (compile r))) (lowest-unproductive (compile r))

  pub recursive-lowest : LowestIs (LeftRecursive (of_rules r)) (lowest_left_recursive (compile r))
  recursive-lowest = carried (λ n g. LowestIs (LeftRecursive g) (lowest_left_recursive (compile r))) (lowest-left-recursive (compile r))

  all-productive : ((a : ℕ) → ¬ Barren r a) → (a : ℕ) → a < length r.productions → Productive (of_rules r) a
  all-productive h a l =
      carried (λ n g. ¬ (¬ Productive g a) → Productive g a) (productive-or-not (compile r) a) (λ x. h a (l, x))

  judge-means : Means r (judge_of (compile r))
  unfolding judge_of unproductive_of left_recursive_of
  judge-means = go (lowest_left_recursive (compile r)) (lowest_unproductive (compile r)) recursive-lowest barren-lowest
    where
      go : (o p : Option ℕ) → LowestIs (LeftRecursive (of_rules r)) o → LowestIs (Barren r) p
          → Means r (or_else (refuse_at Recursive o) (refuse_at Unproductive p))
      go o p (this a x h) q = recursive a (x, h)
      go o p (nothing h) (this a x k) = barren a h (x, k)
      go o p (nothing h) (nothing k) = sound (record { productive = all-productive k; straight = h })

-- bytes that say rules are judged by what those rules mean
pub check-means : (s : List ℕ) (r : Rules) (m : Mark) → decode s ≡ got r m → Means r (check_of s)
unfolding check_of
check-means s r m e = rw e (judge-means r (decode-limited s r m e))

-- bytes that say none are refused as decoding refuses them
pub check-refuses : (s : List ℕ) (f : Refusal) → decode s ≡ refused f → check_of s ≡ Err f
unfolding check_of
check-refuses s f e = rw e

-- ---- and back: rules mean one verdict only
lowest-one : {P : ℕ → Type 0} {a c : ℕ} → Lowest P a → Lowest P c → a ≡ c
lowest-one {P} {a} {c} (x, h) (y, k) = let l = h c y in let n = k a x in omega arith

none-barren : {r : Rules} → IsSound r → (a : ℕ) → ¬ Barren r a
none-barren h a (l, n) = n (h.productive a l)

pub means-one : {r : Rules} {v w : Verdict} → Means r v → Means r w → v ≡ w
means-one (sound h) (sound k) = refl
means-one (sound h) (recursive a (x, l)) = absurd (h.straight a x)
means-one (sound h) (barren a n (x, l)) = absurd (none-barren h a x)
means-one (recursive a (x, l)) (sound h) = absurd (h.straight a x)
means-one (recursive a x) (recursive c y) = ap (λ (z : ℕ). Err (Recursive z)) (lowest-one x y)
means-one (recursive a (x, l)) (barren c n y) = absurd (n a x)
means-one (barren a n (x, l)) (sound h) = absurd (none-barren h a x)
means-one (barren a n x) (recursive c (y, l)) = absurd (n c y)
means-one (barren a n x) (barren c k y) = ap (λ (z : ℕ). Err (Unproductive z)) (lowest-one x y)

-- so the check answers a verdict exactly if the rules mean it
pub check-iff : (s : List ℕ) (r : Rules) (m : Mark) → decode s ≡ got r m → (v : Verdict) → (check_of s ≡ v) ↔ Means r v
check-iff s r m e v = (λ q. subst (Means r) q (check-means s r m e), means-one (check-means s r m e))

-- and finds them sound exactly if they are
pub check_sound : (s : List ℕ) (r : Rules) (m : Mark) → decode s ≡ got r m → (check_of s ≡ Ok tt) ↔ IsSound r
check_sound s r m e = (λ q. is-sound ((check-iff s r m e (Ok tt)).0 q), λ h. (check-iff s r m e (Ok tt)).1 (sound h))
  where
    is-sound : Means r (Ok tt) → IsSound r
    is-sound (sound h) = h
