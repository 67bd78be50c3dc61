-- Nonterminals judged each behind its left corners: what is judged stays closed, and when all are judged the sets are right.
use mathlib.Core.Path.{◌≡◌, sym, ap, ◌∙◌, subst}
use mathlib.Core.Logic.{⊎_elim}
use mathlib.Core.Bool.{Bool, ◌&&◌}
use mathlib.Core.Option.{some}
use mathlib.Core.List.{List, [], ◌∷◌, ◌++◌, append-nil}
use Prim.Native.Nat.{ℕ, zero, suc, ◌+◌, ◌-◌, ◌≤◌, ◌<◌}
use native.Mathlib.Numerals.{add-one}
use native.Mathlib.Omega.{arith}
use lib.Dec.{T, eqb, eqb_refl}
use lib.ListN.{length, get_or, get_elem?}
use lib.Seq.{slice_empty}
use Rattle.base.proofs.Bits.{same?}
use Rattle.base.proofs.Booleans.{clash, T_and, T-or-l, T-or-r}
use Rattle.base.proofs.Lists.{any_of-T, T-any_of}
use Rattle.grammar.specs.declared.Symbol.TheVariants.{Nonterminal}
use Rattle.grammar.specs.Grammar.{Grammar, facing, alternatives, first, suffix, of_places}
use Rattle.grammar.specs.Derivation.{Leftmost}
use Rattle.grammar.specs.inside.Tables.{grammar_in, nonterminals_in}
use Rattle.grammar.proofs.GrammarLaws.{production-is}
use Rattle.closures.specs.Closures.{nullable?}
use Rattle.corners.specs.Corners.{leads, move?}
use Rattle.closures.proofs.Deriving.{nullable-iff}
use Rattle.corners.proofs.LeftRecursion.{leads-place}
use Rattle.derivation.specs.inside.BigSteps.{DerivesBy}
use Rattle.derivation.proofs.ViableLaws.{der→leftmost}
use Rattle.order.specs.inside.Order.{Among, InOrder}
use Rattle.ends.specs.inside.Ends.{end_has, lead, ends_at, SoundEnds, RightEnds}
use Rattle.ends.specs.inside.Row.{Row, cells_in, leads_to, offers}
use Rattle.ends.specs.inside.Judged.{ClosedAt, Looked, Judged}
use Rattle.ends.proofs.LeadLaws.{Led, end, token, later, here, led-in, led-out, lead-place, ends-out, Known}
use Rattle.ends.proofs.InRange.{row-short}
use Rattle.ends.proofs.LookLaws.{row-known, closed-right, looked-sound}

-- ---- what ends where it begins is nullable
empty-end : (g : Grammar) (w : List ℕ) (i b : ℕ) → T (ends_at g w i b i) → T (nullable? g b)
empty-end g w i b t = go (ends-out g w i b i t)
  where
    go : (c : ℕ) × (f : ℕ) × (first g b c ≡ some f) × DerivesBy g w f i i → T (nullable? g b)
    go (c, f, d, (r, x)) =
        let y : Leftmost (of_places g) (suffix g f ++ []) r [] = rw (append-nil, ← slice_empty i w) (der→leftmost x) in
        (nullable-iff g b).1 (c ∷ r, Leftmost.expand (production-is g b c d) y)

-- ---- a look along a production reads only the ends of nonterminals that it leads to
module _ (g : Grammar) (X : ℕ → Bool) (p b : ℕ) (e : facing g p ≡ Nonterminal b) where
  leads-here : T (leads X b (suffix g p))
  leads-here = rw (leads-place X b g p, e) (T-or-l (eqb b b) (X b && leads X b (suffix g (suc p))) (eqb_refl b))

  leads-on : (c : ℕ) → T (X b) → T (leads X c (suffix g (suc p))) → T (leads X c (suffix g p))
  leads-on c x y = rw (leads-place X c g p, e) (T-or-r (eqb b c) (X b && leads X c (suffix g (suc p))) (T_and (X b) (leads X c (suffix g (suc p))) x y))

module _ (g : Grammar) (N : ℕ) (w : List ℕ) (C : ℕ → ℕ → ℕ → Bool) (i : ℕ) (known : Known g N w C i) (inside : i ≤ length w)
    (E E' : ℕ → ℕ → Bool)
    (empty : (b : ℕ) → b < N → T (E b i) → T (nullable? g b)) (j : ℕ) where
  -- what E holds of the nonterminals that the production from p on leads to, E' holds
  abbrev Under : ℕ → Type 0
  Under p = (c m : ℕ) → T (leads (nullable? g) c (suffix g p)) → m ≤ length w → T (E c m) → T (E' c m)

  led-under : (p : ℕ) (rest rest' : Bool) → Under p → ((b : ℕ) → facing g p ≡ Nonterminal b → Under (suc p) → T rest → T rest')
      → Led g w E C i j p rest → Led g w E' C i j p rest'
  led-under p rest rest' h rec (end e q) = end e q
  led-under p rest rest' h rec (token e d a x) = token e d a x
  led-under p rest rest' h rec (later {b = b} m e l k x y) = later m e l k (h b m (leads-here g (nullable? g) p b e) k x) y
  led-under p rest rest' h rec (here {b = b} e x y) =
      here e (h b i (leads-here g (nullable? g) p b e) inside x)
      (rec b e (λ c m t k z. h c m (leads-on g (nullable? g) p b e c (empty b (known.named p b e) x) t) k z) y)

  lead-under : (d p : ℕ) → p + d ≡ g.size → p < g.size → Under p → T (lead g w E C i j p) → T (lead g w E' C i j p)
  lead-under zero p e k h t = absurd (omega arith)
  lead-under (suc d) p e k h t =
      rw (lead-place g w E' C i j p)
      (led-in g w E' C i j p (lead g w E' C i j (suc p))
      (led-under p (lead g w E C i j (suc p)) (lead g w E' C i j (suc p)) h
      (λ b q u x. lead-under d (suc p) (omega arith) (known.kept.next p k (λ z. clash (cc))) u x)
      (led-out g w E C i j p (lead g w E C i j (suc p)) (rw (lead-place g w E C i j p) at t))))

module _ (t w : List ℕ) (i : ℕ) (ws : List ℕ) (row : Row t w i ws) where
  empty-known : (ends : List ℕ) → SoundEnds t w i ends → (b : ℕ) → b < nonterminals_in t → T (end_has ends b i) → T (nullable? (grammar_in t) b)
  unfolding SoundEnds
  empty-known ends sound b h x = empty-end (grammar_in t) w i b (sound b i h (omega (arith, row.here, row-short row)) x)

  -- a look reads only left corners
  corner-in : (a n f c : ℕ) → get_elem? (alternatives (grammar_in t) a) n ≡ some f → T (leads (nullable? (grammar_in t)) c (suffix (grammar_in t) f))
      → T (move? (grammar_in t) a c)
  unfolding move?
  corner-in a n f c e x = T-any_of (λ f. leads (nullable? (grammar_in t)) c (suffix (grammar_in t) f)) (alternatives (grammar_in t) a) n e x

  pub judged-none : (order ends : List ℕ) → SoundEnds t w i ends → Judged t w ws i order 0 ends
  judged-none order ends sound = record { sound = sound; closed = λ a (m, h, e). absurd (omega arith) }

  module _ (order : List ℕ) (in_order : InOrder t order) where
    -- ---- the k-th nonterminal of the order has its turn
    module _ (k : ℕ) (ends after : List ℕ) (h : k < nonterminals_in t) (inv : Judged t w ws i order k ends)
        (look : Looked t w ws i (get_or order k 0) ends after) where
      -- it is none of those judged before
      unlike : (c : ℕ) → Among order k c → c ≡ get_or order k 0 → ⊥
      unlike c x e = in_order.lined.once k h (rw e at x)

      sound-now : SoundEnds t w i after
      sound-now = looked-sound t w i ws row (get_or order k 0) ends after look inv.sound

      -- a nonterminal whose left corners are judged leads to no more than before
      offers-same : (a : ℕ) → ((c : ℕ) → T (move? (grammar_in t) a c) → Among order k c) → (j : ℕ) → T (offers t w ws i after a j)
          → T (offers t w ws i ends a j)
      offers-same a under j x = go (any_of-T _ (alternatives (grammar_in t) a) x)
        where
          go : (n : ℕ) × (f : ℕ) × (get_elem? (alternatives (grammar_in t) a) n ≡ some f) × T (leads_to t w ws i after j f)
              → T (offers t w ws i ends a j)
          go (n, f, e, y) =
              let known = row-known t w i ws row in
              let l = known.kept.starts a (suc n) f e in
              T-any_of (leads_to t w ws i ends j) (alternatives (grammar_in t) a) n e
              (lead-under (grammar_in t) (nonterminals_in t) w (cells_in t ws) i known row.here (end_has after) (end_has ends) (empty-known after sound-now) j
              ((grammar_in t).size - f) f (omega arith) l
              (λ c m u v z. rw (look.others c m (unlike c (under c (corner-in a n f c e u))) (omega (arith, row-short row))) at z) y)

      -- the left corners of those judged before are judged
      behind : (a : ℕ) → Among order k a → (c : ℕ) → T (move? (grammar_in t) a c) → Among order k c
      behind a (m, l, e) c x = go (in_order.lined.behind m c (omega arith) (rw e x))
        where
          go : Among order m c → Among order k c
          go (n, o, q) = (n, omega arith, q)

      closed-own : ClosedAt t w ws i after (get_or order k 0)
      unfolding ClosedAt
      closed-own j l x = rw (look.own j l) (offers-same (get_or order k 0) (λ c. in_order.lined.behind k c h) j x)

      closed-other : (a : ℕ) → Among order k a → ClosedAt t w ws i after a
      unfolding ClosedAt
      closed-other a d j l x = rw (look.others a j (unlike a d) l) (inv.closed a d j l (offers-same a (behind a d) j x))

      closed-now : (a : ℕ) → Among order (suc k) a → ClosedAt t w ws i after a
      closed-now a (m, l, e) = ⊎_elim here before (same? m k)
        where
          here : m ≡ k → ClosedAt t w ws i after a
          here q = subst (λ (x : ℕ). ClosedAt t w ws i after x) (ap (λ (n : ℕ). get_or order n 0) (sym q) ∙ e) closed-own

          before : (m ≡ k → ⊥) → ClosedAt t w ws i after a
          before q = closed-other a (m, omega arith, e)

      judged-more : Judged t w ws i order (suc k) after
      judged-more = record { sound = sound-now; closed = closed-now }

    -- the same as the code meets it
    pub judged-on : (k : ℕ) (ends after : List ℕ) {a : ℕ} → k < nonterminals_in t → Judged t w ws i order k ends → a ≡ get_or order k 0
        → Looked t w ws i a ends after → Judged t w ws i order (k + 1) after
    judged-on k ends after h inv e look = rw add-one (judged-more k ends after h inv (rw e at look))

    -- all have had their turn
    pub judged-all : (k : ℕ) (ends : List ℕ) → nonterminals_in t ≤ k → Judged t w ws i order k ends → RightEnds t w i ends
    judged-all k ends l inv = closed-right t w i ws row ends inv.sound (λ a h. inv.closed a (early (in_order.every a h)))
      where
        early : {a : ℕ} → Among order (nonterminals_in t) a → Among order k a
        early (m, h, e) = (m, omega arith, e)
