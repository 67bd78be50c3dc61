-- C4: where a nonterminal does not start with the token there, the plain chooser's alternative is the lowest that derives the empty row. And where it
-- stands among the first places.
use mathlib.Core.Path.{◌≡◌, refl, sym, ap, ap₂, ◌∙◌}
use mathlib.Core.Logic.{◌↔◌}
use mathlib.Core.Bool.{Bool, false, ◌&&◌}
use mathlib.Core.Option.{Option, some}
use mathlib.Core.List.{List, [], ◌∷◌, append-nil}
use Prim.Native.Nat.{ℕ, suc, ◌+◌, ◌≤◌}
use native.Mathlib.Omega.{arith}
use lib.Dec.{T}
use lib.ListN.{length}
use Rattle.std.specs.Prelude as prelude
use Rattle.std.specs.List.{position_from}
use Rattle.base.specs.Bits.{test_bit}
use Rattle.base.specs.Search.{lowest_from}
use Rattle.base.proofs.Booleans.{T_and}
use Rattle.base.proofs.Lists.{get-get_or}
use Rattle.grammar.specs.declared.Symbol.{Symbol}
use Rattle.grammar.specs.declared.Symbol.TheVariants.{Token, Nonterminal, End}
use Rattle.grammar.specs.Grammar.{Grammar, alternatives, facing, first, suffix, of_places}
use Rattle.grammar.specs.inside.Ordered.{Ordered}
use Rattle.grammar.specs.inside.Tables.{grammar_in}
use Rattle.grammar.specs.Derivation.{Leftmost, Derives}
use Rattle.grammar.proofs.GrammarLaws.{leftmost-append}
use Rattle.closures.specs.Textbook.{Vanishing, nil, also}
use Rattle.closures.specs.Closures.{passes, nullable?}
use Rattle.closures.specs.inside.Steps.{DerivingIs}
use Rattle.closures.proofs.Deriving.{passes-place, vanish-iff}
use Rattle.derivation.specs.Runs.{Opens, Serves}
use Rattle.derivation.specs.Machine.{lowest}
use Rattle.derivation.specs.inside.BigSteps.{DerivesBy}
use Rattle.derivation.proofs.RunLaws.{der+run}
use Rattle.first_follow.specs.FirstFollow.{Skips, here, over}
use Rattle.first_follow.specs.inside.Masks.{Masks, Closed}
use Rattle.filtering.specs.inside.Beginnings.{token_at, Vanishes}
use Rattle.filtering.specs.inside.Filtered.{EndsBy}
use Rattle.filtering.specs.inside.OpenStacks.{Open}
use Rattle.filtering.proofs.StartLaws.{der-vanishes}
use Rattle.filtering.proofs.FilterLaws.{der_f-der}
use Rattle.filtering.proofs.AloneLaws.{empty-der, alone}
use Rattle.filtering.proofs.OpensLaws.{opens_by, lowest-opens}
use Rattle.filtering.proofs.SingleLaws.{serves_by}
use Rattle.machine.specs.inside.Choice.{or_zero, Numbered}
use Rattle.machine.proofs.AlternativeLaws.{some_of}
use Rattle.opening.specs.inside.Choice.{vanishes_in, empty_of}
use Rattle.machine.proofs.LowestLaws.{lowest-place, counted}

-- ---- found in the list of first places
pub placed-empty : (t : List ℕ) (set a : ℕ)
    → Numbered (prelude.option_map (λ k. k + 1)
    (position_from (λ f. passes false (test_bit set) (suffix (grammar_in t) f)) 0 (alternatives (grammar_in t) a)))
    (λ r. r ≡ empty_of (grammar_in t) set a)
unfolding empty_of vanishes_in lowest_from
placed-empty t set a =
    let l : List ℕ = alternatives (grammar_in t) a in
    let P : ℕ → Bool = λ f. passes false (test_bit set) (suffix (grammar_in t) f) in
    counted (position_from P 0 l) (lowest-place (λ b. vanishes_in (grammar_in t) set (first (grammar_in t) a b)) P l 0
    (λ k n. let e : 0 + k ≡ k = omega arith in rw e (ap (λ (o : Option ℕ). vanishes_in (grammar_in t) set o) (get-get_or l k 0 n))))

-- ---- what derives the empty row
-- two sets that agree let the same lists pass
passes_same : (tokens : Bool) (X Y : ℕ → Bool) → ((a : ℕ) → X a ≡ Y a) → (l : List Symbol) → passes tokens X l ≡ passes tokens Y l
unfolding passes
passes_same tokens X Y h [] = refl
passes_same tokens X Y h (Token k ∷ l) = ap (λ (b : Bool). tokens && b) (passes_same tokens X Y h l)
passes_same tokens X Y h (Nonterminal a ∷ l) = ap₂ (λ (x y : Bool). x && y) (h a) (passes_same tokens X Y h l)
passes_same tokens X Y h (End ∷ l) = refl

module _ {g : Grammar} where
  skips-pass : {p q : ℕ} → Skips g p q → facing g q ≡ End → T (passes false (nullable? g) (suffix g p))
  skips-pass (here {p = p}) e = rw (passes-place false (nullable? g) g p, e) tt
  skips-pass (over {p = p} {c = c} d n s) e =
      rw (passes-place false (nullable? g) g p, d) (T_and (nullable? g c) (passes false (nullable? g) (suffix g (suc p))) n (skips-pass s e))

  vanishes-pass : {p : ℕ} → Vanishes g p → T (passes false (nullable? g) (suffix g p))
  vanishes-pass (q, s, e) = skips-pass s e

module _ (g : Grammar) where
  all-vanish : {α : List Symbol} → Vanishing (of_places g) α → Derives (of_places g) α []
  all-vanish nil = ([], Leftmost.done)
  all-vanish (also (r, x) v) = let (s, y) = all-vanish v in (_, leftmost-append x y)

  passes-der : (f : ℕ) (w : List ℕ) (k : ℕ) → k ≤ length w → T (passes false (nullable? g) (suffix g f)) → DerivesBy g w f k k
  passes-der f w k l t = let (r, x) = all-vanish ((vanish-iff g (suffix g f)).0 t) in empty-der {r = r} f w k l (rw append-nil x)

  -- by a set of the nonterminals that do
  same-pass : (set : ℕ) → DerivingIs false g set → (f : ℕ) → passes false (test_bit set) (suffix g f) ≡ passes false (nullable? g) (suffix g f)
  unfolding DerivingIs
  same-pass set nulls f = passes_same false (test_bit set) (nullable? g) nulls (suffix g f)

-- ---- the lowest that does
module _ {g : Grammar} {M : Masks} {w : List ℕ} (order : Ordered g) (c : Closed g M) {S : List ℕ} (a i : ℕ) (o : Open g a S)
    (l : i ≤ length w) (n : ¬ T (M.starts (token_at w i) a)) where
  -- an end of an alternative is the position itself
  ends-here : (b m : ℕ) → EndsBy g M w a i b m → i ≡ m
  ends-here b m x = ((alone order c a i m l n).0 (b, x)).0

  -- if some alternative serves, the stack reads the rest from there
  opens-here : (b : ℕ) → Serves g w S a i b → Opens g w S i
  opens-here b s = let (m, x, y) = (serves_by order c a i o b).0 s in rw (sym (ends-here b m x)) at y

  module _ (y : Opens g w S i) where
    -- then an alternative serves exactly if it derives the empty row
    empty-serves : (b f : ℕ) → first g a b ≡ some f → T (passes false (nullable? g) (suffix g f)) ↔ Opens g w (f ∷ S) i
    empty-serves b f d = (to, λ x. from ((opens_by order c a b f o d).0 x))
      where
        to : T (passes false (nullable? g) (suffix g f)) → Opens g w (f ∷ S) i
        to t = let (r, x) = passes-der g f w i l t in (_, der+run x y.1)

        back : (m : ℕ) → EndsBy g M w a i b m → i ≡ m → T (passes false (nullable? g) (suffix g f))
        back m (f', d', (r, x), h) q = let z : f' ≡ f = cc in rw z at (vanishes-pass (der-vanishes (der_f-der x) q))

        from : (m : ℕ) × EndsBy g M w a i b m × Opens g w S m → T (passes false (nullable? g) (suffix g f))
        from (m, x, v) = back m x (ends-here b m x)

  -- found by a set of the nonterminals that derive the empty row
  pub empty-lowest : (set : ℕ) → DerivingIs false g set → (b : ℕ) → Serves g w S a i b → {r : ℕ} → r ≡ empty_of g set a → ¬ (r ≡ 0)
      → lowest g w S a i ≡ some r
  unfolding empty_of vanishes_in
  empty-lowest set nulls k s e z =
      some_of (lowest g w S a i)
      (e ∙ ap or_zero (lowest-opens g w S a i (λ b. vanishes_in g set (first g a b))
      (λ b f d. rw (d, same-pass g set nulls f) (empty-serves (opens-here k s) b f d)) (λ b d. rw d refl))) z
