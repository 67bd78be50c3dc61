-- Passes at one position, as their loops meet them.
use mathlib.Core.Path.{◌≡◌, refl, sym, ap, subst, ◌∙◌}
use mathlib.Core.Logic.{⊎_elim}
use mathlib.Core.Bool.{Bool, true, false, ◌||◌, true≢false, false≢true}
use mathlib.Core.List.{List}
use Prim.Native.Nat.{ℕ, zero, suc, ◌+◌, ◌*◌, ◌/◌, ◌%◌, ◌≤◌, ◌<◌}
use native.Mathlib.Omega.{arith}
use native.Mathlib.Decide.{dec_lt}
use lib.Dec.{T, eqb, eqb→eq}
use lib.ListN.{length, get_or, replicate, length-replicate}
use Rattle.base.specs.Bits.{word_bits}
use Rattle.base.proofs.Bits.{test-none}
use Rattle.base.proofs.Booleans.{true→T, false→¬T, or-T}
use Rattle.grammar.specs.Limits.{max_places}
use Rattle.grammar.specs.Grammar.{Grammar}
use Rattle.grammar.specs.inside.Tables.{grammar_in}
use Rattle.positions.specs.inside.Positions.{position_count, set_words, member, with_of}
use Rattle.positions.specs.inside.Words.{member_at, total}
use Rattle.positions.proofs.SetLaws.{member-with, length-with}
use Rattle.derivation.specs.inside.Ready.{Ready}
use Rattle.derivation.proofs.ReadyLaws.{ready-size}
use Rattle.reach.specs.inside.Sets.{place_set_words, PointInside, stands, Added}
use Rattle.reach.specs.inside.Passes.{Leads, Closed, SetsGrown, PassedTo, Passed, PassesDone, Stepped}
use Rattle.reach.proofs.AddLaws.{or-first, or-second}
use Rattle.reach.proofs.StepLaws.{leads-le, leads-in, leads-reach, leads-place}

-- ---- one word of a set that is read
pub holds-stands : (ws : List ℕ) (p j : ℕ) {b : Bool} → b ≡ member_at ws (set_words * p) j → b ≡ stands ws p j
unfolding stands
holds-stands ws p j e = e

-- ---- sets that have grown
module _ (g : Grammar) (w : List ℕ) (i : ℕ) where
  pub grown-none : (ws : List ℕ) → SetsGrown g w i ws ws
  grown-none ws = record { kept = λ p j o u. u; early = λ p j o l u. u; sound = λ h. h }

  pub grown-both : {a b c : List ℕ} → SetsGrown g w i a b → SetsGrown g w i b c → SetsGrown g w i a c
  grown-both h k =
      record {
        kept = λ p j o u. k.kept p j o (h.kept p j o u);
        early = λ p j o l u. h.early p j o l (k.early p j o l u);
        sound = λ x. k.sound (h.sound x);
      }

  -- by one step from a point that the sets hold
  pub step-grown : (p : ℕ) {r : Bool} {ws after : List ℕ} → PointInside p i → T (stands ws p i) → Added (Leads g w p i) r ws after → SetsGrown g w i ws after
  step-grown p o s h =
      record {
        kept = h.kept;
        early = λ q j x l u. ⊎_elim (λ v. v) (λ v. let k = leads-le v in absurd (omega arith)) (h.only q j x u);
        sound = λ good q j x u. ⊎_elim (λ v. good q j x v) (λ v. leads-reach (good p i o s) v) (h.only q j x u);
      }

-- ---- the points of a step are points that the sets can hold
pub leads-inside : (t w : List ℕ) → Ready t → length w < position_count → {p i q j : ℕ} → p < (grammar_in t).size → i ≤ length w
    → Leads (grammar_in t) w p i q j → PointInside q j
leads-inside t w ready short l m x = let a = leads-place t w ready l x in let b = leads-in m x in (omega (arith, ready-size t ready), omega arith)

-- ---- the loop of a pass
pub pass-begin : (g : Grammar) (w : List ℕ) (i : ℕ) (ws : List ℕ) → PassedTo g w 0 i false ws ws
pass-begin g w i ws =
    record {
      sets = grown-none g w i ws;
      same = λ _. refl;
      grown = λ e. absurd (false≢true e);
      closed = λ _ p q j l s x. absurd (omega arith);
    }

passed-rises : {g : Grammar} {w : List ℕ} {m i : ℕ} {r : Bool} {ws after : List ℕ} → PassedTo g w m i r ws after → total ws ≤ total after
passed-rises {r = r} {ws = ws} {after = after} h = go r refl
  where
    go : (t : Bool) → r ≡ t → total ws ≤ total after
    go true e = omega (arith, h.grown e)
    go false e = omega (arith, ap total (h.same e))

-- closed also at place p
closed-more : (g : Grammar) (w : List ℕ) (p i : ℕ) (ws : List ℕ) → Closed g w p i ws
    → ((q j : ℕ) → T (stands ws p i) → Leads g w p i q j → T (stands ws q j))
    → Closed g w (p + 1) i ws
closed-more g w p i ws h k p' q j l s x = go (dec_lt p' p)
  where
    go : Dec (p' < p) → T (stands ws q j)
    go (yes m) = h p' q j m s x
    go (no m) = let z : p' ≡ p = omega arith in k q j (rw z at s) (rw z at x)

module _ (t w : List ℕ) (p i : ℕ) {r : Bool} {ws₀ ws : List ℕ} (ready : Ready t) (short : length w < position_count) (l : p < (grammar_in t).size)
    (m : i ≤ length w)
    (h : PassedTo (grammar_in t) w p i r ws₀ ws) {b : Bool} (q : b ≡ stands ws p i) where
  -- nobody stands at place p
  pub pass-out : b ≡ false → PassedTo (grammar_in t) w (p + 1) i r ws₀ ws
  pass-out e =
      record {
        sets = h.sets;
        same = h.same;
        grown = h.grown;
        closed = λ z. closed-more (grammar_in t) w p i ws (h.closed z) (λ q' j s x. absurd (false→¬T (stands ws p i) (sym q ∙ e) s));
      }

  module _ (e : b ≡ true) {u : Bool} {after : List ℕ} (x : Added (Leads (grammar_in t) w p i) u ws after) where
    further : SetsGrown (grammar_in t) w i ws₀ after
    further =
        grown-both (grammar_in t) w i h.sets
        (step-grown (grammar_in t) w i p (omega (arith, ready-size t ready), omega arith) (true→T (stands ws p i) (sym q ∙ e)) x)

    pass-new : u ≡ true → PassedTo (grammar_in t) w (p + 1) i true ws₀ after
    pass-new d =
        record {
          sets = further;
          same = λ z. absurd (true≢false z);
          grown = λ _. omega (arith, x.grown d, passed-rises h);
          closed = λ z. absurd (true≢false z);
        }

    pass-old : u ≡ false → PassedTo (grammar_in t) w (p + 1) i r ws₀ after
    pass-old d =
        record {
          sets = further;
          same = λ z. x.same d ∙ h.same z;
          grown = λ z. omega (arith, h.grown z, ap total (x.same d));
          closed =
              λ z. closed-more (grammar_in t) w p i after (subst (λ (v : List ℕ). Closed (grammar_in t) w p i v) (sym (x.same d)) (h.closed z))
              (λ q' j s y. x.held q' j (leads-inside t w ready short l m y) y);
        }

    -- a step is made from p now
    pub pass-on : PassedTo (grammar_in t) w (p + 1) i (r || u) ws₀ after
    pass-on = go u refl
      where
        go : (v : Bool) → u ≡ v → PassedTo (grammar_in t) w (p + 1) i (r || u) ws₀ after
        go true d = rw (or-second r u d) (pass-new d)
        go false d = rw (or-first r u d) (pass-old d)

  -- a step was made from p before
  pub pass-before : (from : List ℕ) → Stepped t w i from ws → {d : Bool} → d ≡ member from p → d ≡ true
      → PassedTo (grammar_in t) w (p + 1) i r ws₀ ws
  pass-before from y {d} c n =
      record {
        sets = h.sets;
        same = h.same;
        grown = h.grown;
        closed = λ z. closed-more (grammar_in t) w p i ws (h.closed z) (λ q' j s x. y.made p q' j (true→T (member from p) (sym c ∙ n)) l x);
      }

-- ---- the places from which a step was made
pub stepped-none : (t w : List ℕ) (i : ℕ) (ws : List ℕ) → Stepped t w i (replicate place_set_words 0) ws
unfolding member
stepped-none t w i ws =
    record { long = length-replicate {A = ℕ} place_set_words 0; made = λ p q j h l x. absurd (false→¬T (member (replicate place_set_words 0) p) (none p) h) }
  where
    zeros : (n k : ℕ) → get_or {A = ℕ} (replicate n 0) k 0 ≡ 0
    zeros zero k = refl
    zeros (suc n) zero = refl
    zeros (suc n) (suc k) = zeros n k

    none : (p : ℕ) → member (replicate place_set_words 0) p ≡ false
    none p = rw (zeros place_set_words (p / word_bits)) (test-none (p % word_bits))

-- a step is made from p, which is put to them
pub stepped-more : (t w : List ℕ) (p i : ℕ) {u : Bool} {ws after : List ℕ} → Ready t → length w < position_count → i ≤ length w → p < max_places
    → {from from' : List ℕ} → from' ≡ with_of from p
    → Stepped t w i from ws → Added (Leads (grammar_in t) w p i) u ws after → Stepped t w i from' after
stepped-more t w p i {after = after} ready short m few {from} {from'} e y x = record { long = ap length e ∙ (length-with from p ∙ y.long); made = made }
  where
    made : (p' q j : ℕ) → T (member from' p') → p' < (grammar_in t).size → Leads (grammar_in t) w p' i q j → T (stands after q j)
    made p' q j h l z = ⊎_elim (λ d. x.kept q j inside (y.made p' q j d l z)) (λ d. x.held q j inside (rw (eqb→eq p' p d) at z))
        (or-T (member from p') (eqb p' p) (rw (e, member-with from p p' (omega (arith, y.long))) at h))
      where
        inside : PointInside q j
        inside = leads-inside t w ready short l m z

-- all places have had their turn
pub pass-end : (t w : List ℕ) (p i : ℕ) {m : ℕ} {r : Bool} {ws after from : List ℕ} → m ≡ (grammar_in t).size → p ≡ m
    → PassedTo (grammar_in t) w p i r ws after → Stepped t w i from after → Passed t w i r ws after from
pass-end t w p i s e h y = record { to = rw (e, s) at h; stepped = y }

-- ---- passes
pub settle-end : {t w : List ℕ} {i : ℕ} {r : Bool} {ws₀ ws after from : List ℕ} → SetsGrown (grammar_in t) w i ws₀ ws
    → Passed t w i r ws after from → r ≡ false
    → PassesDone t w i ws₀ after
settle-end {t} {w} {i} h k e = record { sets = grown-both (grammar_in t) w i h k.to.sets; closed = k.to.closed e }
