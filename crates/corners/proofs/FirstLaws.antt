-- What stands first in productions, as the code gathers it; and what it tells of the nonterminals that derive the empty row and of left corners.
use mathlib.Core.Path.{◌≡◌, refl, sym, ap, ◌∙◌}
use mathlib.Core.Logic.{◌⊎◌, inl, inr}
use mathlib.Core.Bool.{Bool, false, ◌&&◌, ◌||◌}
use mathlib.Core.Option.{some}
use mathlib.Core.List.{List, [], ◌∷◌}
use Prim.Native.Nat.{ℕ, zero, suc, ◌+◌, ◌≤◌, ◌<◌}
use native.Mathlib.Numerals.{add-one}
use native.Mathlib.Omega.{arith}
use native.Mathlib.Decide.{dec_lt}
use lib.Bits.{bit_and, and_le_l}
use lib.Dec.{T, eqb, eqb→eq, eqb_refl}
use lib.ListN.{length, get_or, set, replicate, get_elem?, length-set, length-replicate}
use lib.Seq.{get_or-set_same, get_or-set_other}
use Rattle.base.specs.Bits.{test_bit, set_bit}
use Rattle.base.specs.Rounds.{any_of}
use Rattle.base.proofs.Booleans.{clash, same, and_T, T_and, or-T, T-or-l, T-or-r, false→¬T, ¬T→false}
use Rattle.base.proofs.Bits.{test-set, test-none, test-and, same?}
use Rattle.base.proofs.Lists.{any_of-T, T-any_of}
use Rattle.grammar.specs.declared.Symbol.{Symbol}
use Rattle.grammar.specs.declared.Symbol.TheVariants.{Token, Nonterminal, End}
use Rattle.grammar.specs.Grammar.{Grammar, suffix, facing, owner, alternatives}
use Rattle.grammar.specs.Limits.{max_nonterminals}
use Rattle.grammar.specs.inside.Tables.{firsts_at, grammar_in, nonterminals_in, rule_at, TablesFit}
use Rattle.grammar.proofs.WordLaws.{length-starts-in}
use Rattle.closures.specs.Closures.{passes, passes_by, deriving_round}
use Rattle.closures.specs.inside.Steps.{Empties, DerivingIs, Gathered}
use Rattle.closures.proofs.Deriving.{passes-place}
use Rattle.closures.proofs.ClosureSteps.{none-empty}
use Rattle.corners.specs.Corners.{leads, leads_by}
use Rattle.corners.specs.inside.Steps.{MovesFrom, MoveRows, LedIs, FirstsAre, Found}
use Rattle.corners.proofs.LeftRecursion.{leads-place}
use Rattle.corners.proofs.RuleLaws.{Stands, stands-alternative, alternative-stands}

-- ---- all productions, one after another
-- the productions told before word k of the tables are looked at: the rows hold the nonterminals that they begin with, `empty` the owners of empty ones, and
-- only members of `led` have a row that is not empty
pub record Looked (t : List ℕ) (k empty led : ℕ) (rows : List ℕ) : Type 0 where
  pub long : length rows ≡ max_nonterminals
  pub row_has : (a c : ℕ) → T (test_bit (get_or rows a 0) c) → Stands t k a (Nonterminal c)
  pub row-all : (a c : ℕ) → a < max_nonterminals → Stands t k a (Nonterminal c) → T (test_bit (get_or rows a 0) c)
  pub empty-has : (a : ℕ) → T (test_bit empty a) → Stands t k a End
  pub empty-all : (a : ℕ) → Stands t k a End → T (test_bit empty a)
  pub led-few : (a : ℕ) → T (test_bit led a) → a < nonterminals_in t
  pub led-is : (a : ℕ) → test_bit led a ≡ false → get_or rows a 0 ≡ 0

none-held : (n a : ℕ) → ◌≡◌ {A = ℕ} (get_or (replicate n 0) a 0) 0
none-held zero a = refl
none-held (suc n) zero = refl
none-held (suc n) (suc a) = none-held n a

pub zeros-long : {rows : List ℕ} → rows ≡ replicate max_nonterminals 0 → length rows ≡ max_nonterminals
zeros-long z = rw z (length-replicate {A = ℕ} max_nonterminals 0)

pub looked-none : (t : List ℕ) {rows : List ℕ} → rows ≡ replicate max_nonterminals 0 → Looked t firsts_at 0 0 rows
looked-none t {rows} z = record {
  long = zeros-long z;
  row_has = λ a c s. absurd (rw (none a, test-none) at s);
  row-all = λ a c l (j, m, n, o, e). absurd (omega arith);
  empty-has = λ a s. absurd (rw test-none at s);
  empty-all = λ a (j, m, n, o, e). absurd (omega arith);
  led-few = λ a s. absurd (rw test-none at s);
  led-is = λ a e. none a;
}
  where
    none : (a : ℕ) → get_or rows a 0 ≡ 0
    none a = rw z (none-held max_nonterminals a)

module _ (t : List ℕ) (k empty led : ℕ) (rows : List ℕ) (i : Looked t k empty led rows) (a f : ℕ) (l : firsts_at ≤ k) (q : f ≡ get_or t k 0)
    (o : owner (grammar_in t) f ≡ a) where
  -- a production looked at is one of those before, or the one of now
  earlier : (b : ℕ) (s : Symbol) → Stands t k b s → Stands t (k + 1) b s
  earlier b s (j, m, n, p, e) = (j, m, omega (arith, add-one k), p, e)

  now-here : (s : Symbol) → facing (grammar_in t) f ≡ s → Stands t (k + 1) a s
  now-here s e = (k, l, omega (arith, add-one k), rw (← q) o, rw (← q) e)

  before-or-now : (b : ℕ) (s : Symbol) → Stands t (k + 1) b s → Stands t k b s ⊎ ((b ≡ a) × (facing (grammar_in t) f ≡ s))
  before-or-now b s (j, m, n, p, e) = go (dec_lt j k)
    where
      go : Dec (j < k) → Stands t k b s ⊎ ((b ≡ a) × (facing (grammar_in t) f ≡ s))
      go (yes h) = inl (j, m, h, p, e)
      go (no h) = let z : j ≡ k = omega (arith, add-one k) in
          let w : get_or t j 0 ≡ f = ap (λ (x : ℕ). get_or t x 0) z ∙ sym q in inr (sym p ∙ ap (owner (grammar_in t)) w ∙ o, rw (← w) e)

  -- it began with something else
  other : (b : ℕ) (s : Symbol) → (facing (grammar_in t) f ≡ s → ⊥) → Stands t (k + 1) b s → Stands t k b s
  other b s n w = elim (before-or-now b s w) [ inl v ↦ v | inr v ↦ absurd (n v.1) ]

  pub looked-token : {j : ℕ} → facing (grammar_in t) f ≡ Token j → Looked t (k + 1) empty led rows
  looked-token {j} e = record {
    long = i.long;
    row_has = λ b c s. earlier b (Nonterminal c) (i.row_has b c s);
    row-all = λ b c m w. i.row-all b c m (other b (Nonterminal c) (λ z. clash (cc)) w);
    empty-has = λ b s. earlier b End (i.empty-has b s);
    empty-all = λ b w. i.empty-all b (other b End (λ z. clash (cc)) w);
    led-few = i.led-few;
    led-is = i.led-is;
  }

  pub looked-end : facing (grammar_in t) f ≡ End → {y : ℕ} → y ≡ set_bit empty a → Looked t (k + 1) y led rows
  looked-end e {y} w = record {
    long = i.long;
    row_has = λ b c s. earlier b (Nonterminal c) (i.row_has b c s);
    row-all = λ b c m v. i.row-all b c m (other b (Nonterminal c) (λ z. clash (cc)) v);
    empty-has = has;
    empty-all = all;
    led-few = i.led-few;
    led-is = i.led-is;
  }
    where
      joined : (b : ℕ) → test_bit y b ≡ (test_bit empty b || eqb b a)
      joined b = rw w (test-set empty a b)

      has : (b : ℕ) → T (test_bit y b) → Stands t (k + 1) b End
      has b s = elim (or-T (test_bit empty b) (eqb b a) (rw (joined b) at s)) [
        | inl u ↦ earlier b End (i.empty-has b u)
        | inr u ↦ rw (eqb→eq b a u) (now-here End e)
      ]

      all : (b : ℕ) → Stands t (k + 1) b End → T (test_bit y b)
      all b v = elim (before-or-now b End v) [
        | inl u ↦ rw (joined b) (T-or-l (test_bit empty b) (eqb b a) (i.empty-all b u))
        | inr u ↦ rw (joined b) (T-or-r (test_bit empty b) (eqb b a) (rw u.0 (eqb_refl a)))
      ]

  pub looked-nonterminal : a < nonterminals_in t → a < max_nonterminals → {d : ℕ} → facing (grammar_in t) f ≡ Nonterminal d → {x y : ℕ}
      → x ≡ set_bit led a → y ≡ set_bit (get_or rows a 0) d → Looked t (k + 1) empty x (set rows a y)
  looked-nonterminal h m {d} e {x} {y} v w = record {
    long = length-set rows a y ∙ i.long;
    row_has = has;
    row-all = all;
    empty-has = λ b s. earlier b End (i.empty-has b s);
    empty-all = λ b s. i.empty-all b (other b End (λ z. clash (cc)) s);
    led-few = few;
    led-is = led-is;
  }
    where
      here : get_or (set rows a y) a 0 ≡ y
      here = get_or-set_same rows a y 0 (omega (arith, i.long))

      there : (b : ℕ) → (b ≡ a → ⊥) → get_or (set rows a y) b 0 ≡ get_or rows b 0
      there b n = get_or-set_other rows a b y 0 n

      joined : (c : ℕ) → test_bit y c ≡ (test_bit (get_or rows a 0) c || eqb c d)
      joined c = rw w (test-set (get_or rows a 0) d c)

      has : (b c : ℕ) → T (test_bit (get_or (set rows a y) b 0) c) → Stands t (k + 1) b (Nonterminal c)
      has b c s = go (same? b a)
        where
          own : T (test_bit (get_or rows a 0) c) ⊎ T (eqb c d) → Stands t (k + 1) a (Nonterminal c)
          own (inl u) = earlier a (Nonterminal c) (i.row_has a c u)
          own (inr u) = rw (eqb→eq c d u) (now-here (Nonterminal d) e)

          go : (b ≡ a) ⊎ (b ≡ a → ⊥) → Stands t (k + 1) b (Nonterminal c)
          go (inl z) = rw z (own (or-T (test_bit (get_or rows a 0) c) (eqb c d) (rw (z, here, joined c) at s)))
          go (inr z) = earlier b (Nonterminal c) (i.row_has b c (rw (there b z) at s))

      all : (b c : ℕ) → b < max_nonterminals → Stands t (k + 1) b (Nonterminal c) → T (test_bit (get_or (set rows a y) b 0) c)
      all b c n s = go (same? b a) (before-or-now b (Nonterminal c) s)
        where
          go : (b ≡ a) ⊎ (b ≡ a → ⊥) → Stands t k b (Nonterminal c) ⊎ ((b ≡ a) × (facing (grammar_in t) f ≡ Nonterminal c))
              → T (test_bit (get_or (set rows a y) b 0) c)
          go (inl z) (inl u) = rw (z, here, joined c) (T-or-l (test_bit (get_or rows a 0) c) (eqb c d) (i.row-all a c m (rw z at u)))
          go (inl z) (inr u) =
              let g : c ≡ d = cc in rw (z, here, joined c) (T-or-r (test_bit (get_or rows a 0) c) (eqb c d) (rw g (eqb_refl d)))
          go (inr z) (inl u) = rw (there b z) (i.row-all b c n u)
          go (inr z) (inr u) = absurd (z u.0)

      few : (b : ℕ) → T (test_bit x b) → b < nonterminals_in t
      few b s = elim (or-T (test_bit led b) (eqb b a) (rw (v, test-set) at s)) [ inl u ↦ i.led-few b u | inr u ↦ rw (eqb→eq b a u) h ]

      led-is : (b : ℕ) → test_bit x b ≡ false → get_or (set rows a y) b 0 ≡ 0
      led-is b z = go (same? b a)
        where
          outside : (test_bit led b || eqb b a) ≡ false
          outside = rw (v, test-set) at z

          go : (b ≡ a) ⊎ (b ≡ a → ⊥) → get_or (set rows a y) b 0 ≡ 0
          go (inl g) = absurd (false→¬T (test_bit led b || eqb b a) outside (T-or-r (test_bit led b) (eqb b a) (rw g (eqb_refl a))))
          go (inr g) =
              there b g
              ∙ i.led-is b (¬T→false (test_bit led b) (λ u. false→¬T (test_bit led b || eqb b a) outside (T-or-l (test_bit led b) (eqb b a) u)))

-- what is known when all are looked at
module _ (t : List ℕ) (fits : TablesFit t) (k empty led : ℕ) (rows : List ℕ) (i : Looked t k empty led rows) (whole : k ≡ rule_at t (nonterminals_in t)) where
  abbrev g : Grammar
  g = grammar_in t

  -- a production leads to c, though nothing vanishes, exactly if it begins with c
  first-leads : (c f : ℕ) → facing g f ≡ Nonterminal c → T (leads (test_bit 0) c (suffix g f))
  first-leads c f e =
      rw (leads-place (test_bit 0) c g f, e) (T-or-l (eqb c c) (test_bit 0 c && leads (test_bit 0) c (suffix g (suc f))) (eqb_refl c))

  leads-first : (c f : ℕ) → T (leads (test_bit 0) c (suffix g f)) → facing g f ≡ Nonterminal c
  leads-first c f u = go (facing g f) refl (rw (leads-place (test_bit 0) c g f) at u)
    where
      go : (s : Symbol) → facing g f ≡ s → T (leads_by (test_bit 0) c s (leads (test_bit 0) c (suffix g (suc f)))) → facing g f ≡ Nonterminal c
      go (Token j) e v = absurd v
      go End e v = absurd v
      go (Nonterminal b) e v = elim (or-T (eqb b c) (test_bit 0 b && leads (test_bit 0) c (suffix g (suc f))) v) [
        | inl w ↦ e ∙ ap Nonterminal (eqb→eq b c w)
        | inr w ↦ absurd (let z = (and_T (test_bit 0 b) (leads (test_bit 0) c (suffix g (suc f))) w).0 in rw test-none at z)
      ]

  -- it passes, though nothing does, exactly if it is empty
  end-passes : (f : ℕ) → facing g f ≡ End → T (passes false (test_bit 0) (suffix g f))
  end-passes f e = rw (passes-place false (test_bit 0) g f, e) tt

  passes-end : (f : ℕ) → T (passes false (test_bit 0) (suffix g f)) → facing g f ≡ End
  passes-end f u = go (facing g f) refl (rw (passes-place false (test_bit 0) g f) at u)
    where
      go : (s : Symbol) → facing g f ≡ s → T (passes_by false (test_bit 0) s (passes false (test_bit 0) (suffix g (suc f)))) → facing g f ≡ End
      go (Token j) e v = absurd v
      go End e v = e
      go (Nonterminal b) e v = absurd (let z = (and_T (test_bit 0 b) (passes false (test_bit 0) (suffix g (suc f))) v).0 in rw test-none at z)

  all-moves : MoveRows 0 g (nonterminals_in t) rows
  unfolding MoveRows MovesFrom
  all-moves a l c =
      same (test_bit (get_or rows a 0) c) (any_of (λ f. leads (test_bit 0) c (suffix g f)) (alternatives g a)) to from
    where
      to : T (test_bit (get_or rows a 0) c) → T (any_of (λ f. leads (test_bit 0) c (suffix g f)) (alternatives g a))
      to s =
          let (j, f, d, e) = stands-alternative t fits a (Nonterminal c) (rw whole at (i.row_has a c s)) in
          T-any_of (λ f. leads (test_bit 0) c (suffix g f)) (alternatives g a) j d (first-leads c f e)

      from : T (any_of (λ f. leads (test_bit 0) c (suffix g f)) (alternatives g a)) → T (test_bit (get_or rows a 0) c)
      from s =
          let (j, f, d, u) = any_of-T (λ f. leads (test_bit 0) c (suffix g f)) (alternatives g a) s in
          i.row-all a c (omega (arith, fits.few)) (rw whole (alternative-stands t fits a (Nonterminal c) j f l d (leads-first c f u)))

  all-empties : Empties g (nonterminals_in t) empty
  unfolding deriving_round
  all-empties = record { has = has; all = all }
    where
      has : (a : ℕ) → T (test_bit empty a) → T (deriving_round false g (test_bit 0) a)
      has a s =
          let (j, f, d, e) = stands-alternative t fits a End (rw whole at (i.empty-has a s)) in
          T-any_of (λ f. passes false (test_bit 0) (suffix g f)) (alternatives g a) j d (end-passes f e)

      all : (a : ℕ) → a < nonterminals_in t → T (deriving_round false g (test_bit 0) a) → T (test_bit empty a)
      all a l s =
          let (j, f, d, u) = any_of-T (λ f. passes false (test_bit 0) (suffix g f)) (alternatives g a) s in
          i.empty-all a (rw whole (alternative-stands t fits a End j f l d (passes-end f u)))

  pub looked-all : FirstsAre g (nonterminals_in t) empty led rows
  unfolding LedIs
  looked-all = record { moves = all-moves; empties = all-empties; few = i.led-few; led-is = λ a l e. i.led-is a e }

-- ---- what the first symbols tell
-- a first symbol is in the row
first-in : (g : Grammar) (a row : ℕ) → MovesFrom 0 g a row → (n f : ℕ) → get_elem? (alternatives g a) n ≡ some f
    → (b : ℕ) (l : List Symbol) → suffix g f ≡ Nonterminal b ∷ l → T (test_bit row b)
unfolding MovesFrom leads
first-in g a row h n f e b l q =
    rw (h b)
    (T-any_of (λ f. leads (test_bit 0) b (suffix g f)) (alternatives g a) n e
    (rw q (T-or-l (eqb b b) (test_bit 0 b && leads (test_bit 0) b l) (eqb_refl b))))

-- a nonterminal without an empty production, none of whose first symbols X holds
first-misses : (g : Grammar) (a row : ℕ) → MovesFrom 0 g a row → deriving_round false g (test_bit 0) a ≡ false
    → (X : ℕ → Bool) → ((c : ℕ) → T (test_bit row c) → X c ≡ false) → deriving_round false g X a ≡ false
unfolding deriving_round passes
first-misses g a row h e X m = ¬T→false (deriving_round false g X a) to
  where
    passing : (n f : ℕ) → get_elem? (alternatives g a) n ≡ some f → (l : List Symbol) → suffix g f ≡ l → T (passes false X l) → ⊥
    passing n f d [] q s =
        false→¬T (deriving_round false g (test_bit 0) a) e (T-any_of (λ f. passes false (test_bit 0) (suffix g f)) (alternatives g a) n d (rw q tt))
    passing n f d (Token k ∷ l) q s = s
    passing n f d (Nonterminal b ∷ l) q s = false→¬T (X b) (m b (first-in g a row h n f d b l q)) (and_T (X b) (passes false X l) s).0
    passing n f d (End ∷ l) q s = s

    to : T (any_of (λ f. passes false X (suffix g f)) (alternatives g a)) → ⊥
    to t = let (n, f, d, s) = any_of-T (λ f. passes false X (suffix g f)) (alternatives g a) t in passing n f d (suffix g f) refl s

-- ---- what is found in the end
module _ (t rows : List ℕ) (empty led : ℕ) (i : FirstsAre (grammar_in t) (nonterminals_in t) empty led rows) where
  -- what the closure begins with
  pub gathered : TablesFit t → length rows ≡ max_nonterminals → Gathered t rows led empty
  unfolding MoveRows LedIs
  gathered fits long =
      record {
        fits = fits;
        long = long;
        headed =
            record { few = i.few; none = i.led-is; first = λ a l e X m. first-misses (grammar_in t) a (get_or rows a 0) (i.moves a l) e X m };
        empties = i.empties;
      }

  pub found : {nullable : ℕ} → DerivingIs false (grammar_in t) nullable → Found t nullable led rows
  found d = record { vanish = d; firsts = i.moves; led-is = i.led-is }

  pub found_none : empty ≡ 0 → Found t 0 led rows
  found_none e = found (none-empty (grammar_in t) (nonterminals_in t) empty (length-starts-in t) i.empties e)

-- ---- from what stands first to the left corners
-- where nothing that stands first derives the empty row, it alone is led to
pub widen-same : (g : Grammar) (a nullable row : ℕ) → MovesFrom 0 g a row → bit_and row nullable ≡ 0 → MovesFrom nullable g a row
unfolding MovesFrom leads
widen-same g a nullable row h z c =
    h c
    ∙ same (any_of (λ f. leads (test_bit 0) c (suffix g f)) (alternatives g a)) (any_of (λ f. leads (test_bit nullable) c (suffix g f)) (alternatives g a))
    to from
  where
    more : (l : List Symbol) → T (leads (test_bit 0) c l) → T (leads (test_bit nullable) c l)
    more [] t = t
    more (Token k ∷ l) t = t
    more (Nonterminal b ∷ l) t = elim (or-T (eqb b c) (test_bit 0 b && leads (test_bit 0) c l) t) [
      | inl u ↦ T-or-l (eqb b c) (test_bit nullable b && leads (test_bit nullable) c l) u
      | inr u ↦ absurd (let v = (and_T (test_bit 0 b) (leads (test_bit 0) c l) u).0 in rw test-none at v)
    ]
    more (End ∷ l) t = t

    less : (n f : ℕ) → get_elem? (alternatives g a) n ≡ some f → (l : List Symbol) → suffix g f ≡ l → T (leads (test_bit nullable) c l)
        → T (leads (test_bit 0) c l)
    less n f d [] q t = t
    less n f d (Token k ∷ l) q t = t
    less n f d (Nonterminal b ∷ l) q t = elim (or-T (eqb b c) (test_bit nullable b && leads (test_bit nullable) c l) t) [
      | inl u ↦ T-or-l (eqb b c) (test_bit 0 b && leads (test_bit 0) c l) u
      | inr u ↦
          absurd (let v = (and_T (test_bit nullable b) (leads (test_bit nullable) c l) u).0 in
          let w : T (test_bit (bit_and row nullable) b) = rw test-and (T_and (test_bit row b) (test_bit nullable b) (first-in g a row h n f d b l q) v) in
          rw (z, test-none) at w)
    ]
    less n f d (End ∷ l) q t = t

    to : T (any_of (λ f. leads (test_bit 0) c (suffix g f)) (alternatives g a)) → T (any_of (λ f. leads (test_bit nullable) c (suffix g f)) (alternatives g a))
    to t =
        let (n, f, d, s) = any_of-T (λ f. leads (test_bit 0) c (suffix g f)) (alternatives g a) t in
        T-any_of (λ f. leads (test_bit nullable) c (suffix g f)) (alternatives g a) n d (more (suffix g f) s)

    from : T (any_of (λ f. leads (test_bit nullable) c (suffix g f)) (alternatives g a))
        → T (any_of (λ f. leads (test_bit 0) c (suffix g f)) (alternatives g a))
    from t =
        let (n, f, d, s) = any_of-T (λ f. leads (test_bit nullable) c (suffix g f)) (alternatives g a) t in
        T-any_of (λ f. leads (test_bit 0) c (suffix g f)) (alternatives g a) n d (less n f d (suffix g f) refl s)

-- a row that stays as it came
pub row_first : (g : Grammar) (n a : ℕ) (rows : List ℕ) → MoveRows 0 g n rows → a < n → {x : ℕ} → x ≡ get_or rows a 0 → MovesFrom 0 g a x
unfolding MoveRows
row_first g n a rows h l e = rw e (h a l)

-- an empty row holds nothing that vanishes
pub none-met : {row : ℕ} (nullable : ℕ) → row ≡ 0 → bit_and row nullable ≡ 0
none-met {row} nullable e = omega (arith, and_le_l row nullable)
