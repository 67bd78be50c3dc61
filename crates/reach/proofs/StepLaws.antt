-- Where one step leads, and the points that the code adds for it.
use mathlib.Core.Path.{◌≡◌, sym, ◌∙◌}
use mathlib.Core.Logic.{◌⊎◌, inl, inr}
use mathlib.Core.Bool.{Bool, true, false, not, ◌||◌}
use mathlib.Core.Option.{some}
use mathlib.Core.List.{List}
use Prim.Native.Nat.{ℕ, suc, ◌+◌, ◌≤◌, ◌<◌}
use native.Mathlib.Omega.{arith}
use lib.Dec.{T}
use lib.ListN.{length, get_elem?}
use borrow.Author.Tests.{not-true, not-false}
use Rattle.base.proofs.Booleans.{clash, true→T, false→¬T}
use Rattle.base.proofs.Lists.{Found, any_of-T, T-any_of, get-below}
use Rattle.grammar.specs.declared.Symbol.TheVariants.{Token, Nonterminal, End}
use Rattle.grammar.specs.Limits.{max_places}
use Rattle.grammar.specs.Grammar.{Grammar, facing, admits, first, alternatives}
use Rattle.grammar.specs.inside.Tables.{grammar_in}
use Rattle.grammar.proofs.GrammarLaws.{first_pos}
use Rattle.positions.specs.inside.Positions.{position_count, member}
use Rattle.derivation.specs.Cells.{derives?}
use Rattle.derivation.specs.inside.Ready.{Ready}
use Rattle.derivation.specs.inside.Reach.{Reach}
use Rattle.derivation.proofs.RunLaws.{der-le, der-in}
use Rattle.derivation.proofs.CellLaws.{derives-sound, derives-complete}
use Rattle.derivation.proofs.ReadyLaws.{ready-first, ready-next, ready-size}
use Rattle.cells.specs.inside.Chart.{cell_has, ChartedFrom, Charted, EndsOf}
use Rattle.cells.specs.inside.Matches.{matches_at}
use Rattle.cells.proofs.MatchLaws.{matches-in, matches-out}
use Rattle.reach.specs.inside.Sets.{PointInside, Added, PointOf}
use Rattle.reach.specs.inside.Passes.{Opening, Leads, match, call, return}
use Rattle.reach.proofs.AddLaws.{added-as, none-added, both-added, or-true}

-- ---- steps go forward, stay in the note and in the productions, and lead to what can be reached
module _ {g : Grammar} {w : List ℕ} {p i : ℕ} where
  pub leads-le : {q j : ℕ} → Leads g w p i q j → i ≤ j
  leads-le (match e d a) = omega arith
  leads-le (call b e d) = omega arith
  leads-le (return b e d x) = der-le x

  pub leads-in : {q j : ℕ} → i ≤ length w → Leads g w p i q j → j ≤ length w
  leads-in l (match e d a) = get-below w i d
  leads-in l (call b e d) = l
  leads-in l (return b e d x) = der-in x

  pub leads-reach : {q j : ℕ} → Reach g w p i → Leads g w p i q j → Reach g w q j
  leads-reach x (match e d a) = Reach.match x e d a
  leads-reach x (call b e d) = Reach.call b x e d
  leads-reach x (return b e d y) = Reach.return b x e d y

pub leads-place : (t w : List ℕ) → Ready t → {p i q j : ℕ} → p < (grammar_in t).size → Leads (grammar_in t) w p i q j → q < (grammar_in t).size
leads-place t w ready {p = p} l (match e d a) = ready-next t ready p l (λ z. clash (cc))
leads-place t w ready l (call {a = a} {f = f} b e d) = ready-first t ready a b f d
leads-place t w ready {p = p} l (return b e d x) = ready-next t ready p l (λ z. clash (cc))

-- the place behind a symbol is one of the 255
next_small : (t : List ℕ) → Ready t → (p : ℕ) → p < (grammar_in t).size → ¬ (facing (grammar_in t) p ≡ End) → p + 1 < max_places
next_small t ready p l n = let h = ready-next t ready p l n in omega (arith, ready-size t ready)

pub next-token : (t : List ℕ) → Ready t → (p : ℕ) {k : ℕ} → p < (grammar_in t).size → facing (grammar_in t) p ≡ Token k → p + 1 < max_places
next-token t ready p l e = next_small t ready p l (λ z. clash (cc))

pub next-call : (t : List ℕ) → Ready t → (p : ℕ) {a : ℕ} → p < (grammar_in t).size → facing (grammar_in t) p ≡ Nonterminal a → p + 1 < max_places
next-call t ready p l e = next_small t ready p l (λ z. clash (cc))

-- ---- at a production's end, and at a token
module _ (g : Grammar) (w : List ℕ) (p i : ℕ) where
  pub step_end : (ws : List ℕ) → facing g p ≡ End → Added (Leads g w p i) false ws ws
  step_end ws e = none-added ws (λ q j x. none x)
    where
      none : {q j : ℕ} → Leads g w p i q j → ⊥
      none (match e' d a) = clash (cc)
      none (call b e' d) = clash (cc)
      none (return b e' d x) = clash (cc)

  module _ {k : ℕ} (e : facing g p ≡ Token k) where
    pub step_other : (ws : List ℕ) {m : Bool} → m ≡ matches_at g w i k → not m ≡ true → Added (Leads g w p i) false ws ws
    step_other ws {m} q n = none-added ws (λ q j x. none x)
      where
        none : {q j : ℕ} → Leads g w p i q j → ⊥
        none (match {k = k'} e' d a) = let h : k' ≡ k = cc in
            false→¬T (matches_at g w i k) (sym q ∙ not-true m n) (matches-in g w i k d (rw h at a))
        none (call b e' d) = clash (cc)
        none (return b e' d x) = clash (cc)

    pub step-match : {m r : Bool} {ws after : List ℕ} → m ≡ matches_at g w i k → not m ≡ false → Added (PointOf (p + 1) (i + 1)) r ws after
        → Added (Leads g w p i) r ws after
    step-match {m} z n h = added-as (λ q j _ u. to q j u (matches-out g w i k (true→T (matches_at g w i k) (sym z ∙ not-false m n)))) (λ q j _ u. from u) h
      where
        to : (q j : ℕ) → PointOf (p + 1) (i + 1) q j → (x : ℕ) × (get_elem? w i ≡ some x) × T (admits g k x) → Leads g w p i q j
        to q j (u, v) (x, d, a) = let s : q ≡ suc p = omega arith in let o : j ≡ suc i = omega arith in rw (s, o) (match e d a)

        from : {q j : ℕ} → Leads g w p i q j → PointOf (p + 1) (i + 1) q j
        from (match e' d a) = (omega arith, omega arith)
        from (call b e' d) = clash (cc)
        from (return b e' d x) = clash (cc)

-- ---- at a nonterminal
-- a production of a that begins at i ends at j
abbrev Ended : Grammar → List ℕ → ℕ → ℕ → ℕ → Type 0
Ended g w a i j = (b : ℕ) × (f : ℕ) × (first g a b ≡ some f) × T (derives? g w f i j)

module _ (t w cs : List ℕ) (a i : ℕ) (ends : List ℕ) (ready : Ready t) (chart : Charted t w cs) (l : i ≤ length w) (h : EndsOf t cs a i ends) where
  cell-is : (b f j : ℕ) → j < position_count → first (grammar_in t) a b ≡ some f → cell_has (grammar_in t).size cs f i j
      ≡ derives? (grammar_in t) w f i j
  unfolding ChartedFrom
  cell-is b f j m e = chart f i j (ready-first t ready a b f e) (omega arith) l m

  ends-out : (j : ℕ) → j < position_count → T (member ends j) → Ended (grammar_in t) w a i j
  unfolding EndsOf
  ends-out j m u = go (any_of-T (λ f. cell_has (grammar_in t).size cs f i j) (alternatives (grammar_in t) a) (rw (h j m) at u))
    where
      go : Found (λ f. cell_has (grammar_in t).size cs f i j) (alternatives (grammar_in t) a) → Ended (grammar_in t) w a i j
      go (n, f, e, s) = (suc n, f, e, rw (cell-is (suc n) f j m e) at s)

  ends-in : (j b f : ℕ) → j < position_count → first (grammar_in t) a b ≡ some f → T (derives? (grammar_in t) w f i j) → T (member ends j)
  unfolding EndsOf
  ends-in j b f m e u =
      let n = first_pos (grammar_in t) a b f e in
      rw (h j m) (T-any_of (λ f. cell_has (grammar_in t).size cs f i j) (alternatives (grammar_in t) a) n.0 n.1 (rw (cell-is b f j m e) u))

  module _ (p : ℕ) {r s : Bool} {ws mid after : List ℕ} (e : facing (grammar_in t) p ≡ Nonterminal a) (x : Added (Opening (grammar_in t) a i) r ws mid)
      (y : Added (λ q j. (q ≡ p + 1) × T (member ends j)) s mid after) where
    to : (q j : ℕ) → PointInside q j → Opening (grammar_in t) a i q j ⊎ ((q ≡ p + 1) × T (member ends j)) → Leads (grammar_in t) w p i q j
    to q j o (inl (b, d, z)) = rw z (call b e d)
    to q j (_, m) (inr (z, u)) = go (ends-out j m u)
      where
        go : Ended (grammar_in t) w a i j → Leads (grammar_in t) w p i q j
        go (b, f, d, v) = let s : q ≡ suc p = omega arith in rw s (return b e d (derives-sound (grammar_in t) w v).1)

    from : {q j : ℕ} → PointInside q j → Leads (grammar_in t) w p i q j → Opening (grammar_in t) a i q j ⊎ ((q ≡ p + 1) × T (member ends j))
    from o (match e' d v) = clash (cc)
    from o (call {a = a'} b e' d) = let z : a' ≡ a = cc in inl (b, rw z at d, omega arith)
    from {j = j} (_, m) (return {a = a'} {f = f} b e' d v) =
        let z : a' ≡ a = cc in
        inr (omega arith, ends-in j b f m (rw z at d) (derives-complete (grammar_in t) w v))

    both : Added (Leads (grammar_in t) w p i) (r || s) ws after
    both = added-as (λ q j o u. to q j o u) (λ q j o u. from o u) (both-added x y)

    -- the first lot has something new, or not
    pub call-new : r ≡ true → Added (Leads (grammar_in t) w p i) r ws after
    call-new z = rw (or-true r s z) at both

    pub call-old : r ≡ false → Added (Leads (grammar_in t) w p i) s ws after
    call-old z = rw z at both
