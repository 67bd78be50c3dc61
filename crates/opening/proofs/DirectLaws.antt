-- The lowest alternative that serves, told without going down the stack, if some alternative serves at all: the only one, the lowest that derives the empty
-- row, or that of a single end. And a pair that is worked out for it.
use mathlib.Core.Path.{◌≡◌, refl, sym, ◌∙◌}
use mathlib.Core.Bool.{Bool, true, false, not}
use mathlib.Core.Option.{some}
use mathlib.Core.List.{List}
use Prim.Native.Nat.{ℕ, ◌≤◌, ◌<◌}
use native.Mathlib.Omega.{arith}
use lib.ListN.{length, get_or, get_elem?}
use Rattle.std.specs.Prelude.{Result, Ok, Some, None}
use Rattle.std.specs.Prelude.{Option as Answer}
use Rattle.base.specs.Bits.{test_bit}
use Rattle.base.specs.Search.{this}
use Rattle.base.proofs.Booleans.{clash, failed, true→T, false→¬T}
use Rattle.base.proofs.Lists.{get_or-get}
use Rattle.base.proofs.Lowest.{lowest-one}
use Rattle.grammar.specs.Limits.{end_mark}
use Rattle.grammar.specs.Grammar.{Grammar, alternatives}
use Rattle.grammar.specs.inside.Ordered.{Ordered}
use Rattle.grammar.specs.inside.Tables.{grammar_in, nonterminals_in}
use Rattle.derivation.specs.Runs.{marked, Serves}
use Rattle.derivation.specs.Machine.{lowest}
use Rattle.derivation.specs.inside.Ready.{Ready}
use Rattle.derivation.proofs.LowestLaws.{first-lt, lowest-serves}
use Rattle.derivation.proofs.MarkedCells.{length_marked}
use Rattle.derivation.proofs.ReadyLaws.{ready-ordered}
use Rattle.first_follow.specs.inside.Masks.{Masks, Closed}
use Rattle.first_follow.specs.inside.Words.{nullable_at, masks_in}
use Rattle.filtering.specs.inside.OpenStacks.{Open}
use Rattle.filtering.specs.inside.Tags.{one_end, one, Tagged}
use Rattle.filtering.proofs.SingleLaws.{serves_by, single-lowest}
use Rattle.machine.specs.inside.Choice.{Numbered}
use Rattle.machine.proofs.AlternativeLaws.{named_some}
use Rattle.machine.proofs.LowestLaws.{numbered-map}
use Rattle.search.specs.declared.meter.Meter.{Meter}
use Rattle.search.specs.declared.words.Size.{Size}
use Rattle.search.specs.declared.meter.Exhausted.{Exhausted}
use Rattle.search.specs.declared.words.Tag.{Tag}
use Rattle.search.specs.declared.words.Tag.TheVariants.{One}
use Rattle.search.specs.inside.Words.{tag_at, tag_from, tag_in}
use Rattle.search.specs.inside.Searching.{state_of, MayAsk}
use Rattle.search.specs.inside.Trials.{Settled}
use Rattle.opening.specs.inside.Choice.{empty_of, AskedFor, Taken, LowestWhere}
use Rattle.search.proofs.WordLaws.{done-here}
use Rattle.opening.proofs.KeptLaws.{same-words}
use Rattle.opening.proofs.EmptyLaws.{empty-lowest}

-- ---- the only alternative
only-lowest : (t : List ℕ) → Ready t → (w S : List ℕ) (a i : ℕ) → length (alternatives (grammar_in t) a) < 2 → (b : ℕ) → Serves (grammar_in t) w S a i b
    → lowest (grammar_in t) w S a i ≡ some 1
only-lowest t h w S a i l b s =
    let z : b ≡ 1 = omega (arith, first-lt (grammar_in t) w a b s.0 s.1, named_some t h a b (s.0, s.1)) in
    lowest-one (lowest-serves (grammar_in t) w S a i) (this 1 (rw z at s) (λ c x. named_some t h a c (x.0, x.1)))

-- ---- that of a single end
single-taken : {g : Grammar} {M : Masks} {w : List ℕ} (order : Ordered g) (c : Closed g M) {S : List ℕ} (a i : ℕ) → Open g a S
    → (m b : ℕ) (more : Bool) → Tagged g M w a i (one_end m b more) → (k : ℕ) → Serves g w S a i k → lowest g w S a i ≡ some b
single-taken order c a i o m b more (one p u e) k s =
    let (n, x, y) = (serves_by order c a i o k).0 s in single-lowest order c a i o m b more (one p u e) (rw (u k n x).0 at y)

-- no end is given by alternative 0
named-end : {g : Grammar} {M : Masks} {w : List ℕ} (a : ℕ) {i m b : ℕ} {more : Bool} → Tagged g M w a i (one_end m b more) → ¬ (b ≡ 0)
named-end a (one (f, d, x, y) u e) z = let q = rw z at d in clash (cc)

-- ---- a pair that is worked out
pub asked-now : {t w ms ws after : List ℕ} {a i budget : ℕ} {r : Meter} → Settled t w ms ws after a i (record { left = budget; high = 0 }) r (Ok tt)
    → AskedFor t w ms ws after a i budget r.left
asked-now y = record { kept = y.kept; holds = y.holds; spent = y.spent; done = λ _. y.done }

-- or the budget is out
pub asked-out : {t w ms ws after : List ℕ} {a i budget : ℕ} {m r : Meter} {z : Result (Unit {0}) Exhausted} → Settled t w ms ws after a i m r z
    → AskedFor t w ms ws after a i budget 0
asked-out y = record { kept = y.kept; holds = y.holds; spent = omega arith; done = λ l. absurd (omega arith) }

module _ {t w ms ws : List ℕ} {s : Size} {a i : ℕ} (h : MayAsk t w ms ws s a i) (budget : ℕ) where
  pub asked-before : {b : Bool} → b ≡ test_bit (get_or ws i 0) a → b ≡ true → AskedFor t w ms ws ws a i budget budget
  asked-before {b} e q =
      record {
        kept = same-words _ ws;
        holds = h.searching.holds;
        spent = omega arith;
        done = λ _. done-here (nonterminals_in t) (length w) ws a i h.pair.0 h.pair.1 (true→T (test_bit (get_or ws i 0) a) (sym e ∙ q));
      }

  -- ---- the ways out
  pub taken-only : {n : ℕ} → n ≡ length (alternatives (grammar_in t) a) → n < 2 → Taken t w ms ws ws a i budget (record { alternative = Some 1; left = budget })
  taken-only e l =
      record {
        kept = same-words _ ws;
        holds = h.searching.holds;
        spent = omega arith;
        taken = (λ z. clash (cc), λ S o b x z. only-lowest t h.searching.given.ready (marked w) S a i (omega (arith, e)) b x);
      }

  pub taken-empty : {u : ℕ} {b : Bool} → get_elem? (marked w) i ≡ some u → b ≡ (masks_in ms).starts u a → not b ≡ true → {set : ℕ} {r : Answer ℕ}
      → set ≡ get_or ms nullable_at 0 → Numbered r (λ r. r ≡ empty_of (grammar_in t) set a)
      → Taken t w ms ws ws a i budget (record { alternative = r; left = budget })
  taken-empty {u} {b} e q n {set} {r} f v =
      let g = h.searching.given in
      let y : (masks_in ms).starts (get_or (marked w) i end_mark) a ≡ false = rw (get_or-get (marked w) i end_mark e) (failed q n) in
      record {
        kept = same-words _ ws;
        holds = h.searching.holds;
        spent = omega arith;
        taken = numbered-map r {Q = LowestWhere t w a i} (λ c v S o k x z.
            empty-lowest (ready-ordered t g.ready) g.closed a i o (omega (arith, h.pair.1, length_marked w))
            (false→¬T ((masks_in ms).starts (get_or (marked w) i end_mark) a) y) set (rw f g.nullable) k x v z) v;
      }

  module _ {after : List ℕ} {left : ℕ} (y : AskedFor t w ms ws after a i budget left) where
    -- nothing is told
    pub taken_none : {n : ℕ} → n ≤ left → Taken t w ms ws after a i budget (record { alternative = None; left = n })
    taken_none l =
        record { kept = y.kept; holds = y.holds; spent = omega (arith, y.spent); taken = λ S o b x z. absurd (z refl) }

    module _ (n : ¬ (left ≡ 0)) {x : Tag} (e : x ≡ tag_from (get_or after (tag_at s.nonterminals s.n a i) 0)) {m b : ℕ} {more : Bool}
        (q : x ≡ One m b more) where
      tag-here : (state_of t w after).tag a i ≡ one_end m b more
      unfolding tag_in
      tag-here = let z = rw (h.sized.names, h.sized.tokens) at (sym e ∙ q) in rw z

      pub taken-single : Taken t w ms ws after a i budget (record { alternative = Some b; left = left })
      taken-single =
          let g = h.searching.given in
          let v : Tagged (grammar_in t) (masks_in ms) (marked w) a i (one_end m b more) = rw tag-here at (y.holds a i (y.done (omega arith))) in
          record {
            kept = y.kept;
            holds = y.holds;
            spent = y.spent;
            taken = (named-end a v, λ S o k u _. single-taken (ready-ordered t g.ready) g.closed a i o m b more v k u);
          }
