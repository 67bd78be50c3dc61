-- Looking along productions: what is found is derived; what no look adds to holds every end; and by exact ends each cell follows from the next.
use mathlib.Core.Path.{◌≡◌, refl, sym}
use mathlib.Core.Logic.{◌⊎◌, inl, inr, ⊎_elim}
use mathlib.Core.Bool.{Bool, ◌&&◌}
use mathlib.Core.Option.{some}
use mathlib.Core.List.{List, [], ◌∷◌, ◌++◌}
use Prim.Native.Nat.{ℕ, zero, suc, ◌+◌, ◌≤◌, ◌<◌}
use native.Mathlib.Omega.{arith}
use lib.Dec.{T, eqb→eq, eqb_refl}
use lib.ListN.{length, get_elem?}
use Rattle.base.proofs.Bits.{same?}
use Rattle.base.proofs.Booleans.{clash, and_T, T_and, or-T, T-or-l, T-or-r, same}
use Rattle.base.proofs.Lists.{any_of-T, T-any_of, get-below}
use Rattle.grammar.specs.declared.Symbol.{Symbol}
use Rattle.grammar.specs.declared.Symbol.TheVariants.{Token, Nonterminal, End}
use Rattle.grammar.specs.Grammar.{Grammar, facing, admits, alternatives, first, before, suffix}
use Rattle.grammar.proofs.GrammarLaws.{suffix-is, first_pos}
use Rattle.positions.specs.inside.Positions.{position_count}
use Rattle.derivation.specs.inside.BigSteps.{Der, DerivesBy}
use Rattle.derivation.specs.Cells.{derives?}
use Rattle.derivation.proofs.RunLaws.{der-le, der-in}
use Rattle.derivation.proofs.CellLaws.{Kept, derives-sound, derives-complete}
use Rattle.cells.specs.inside.Matches.{matches_at}
use Rattle.cells.specs.inside.Through.{through_of}
use Rattle.cells.proofs.MatchLaws.{matches-in, matches-out}
use Rattle.cells.proofs.ThroughLaws.{through-in, through-out}
use Rattle.ends.specs.inside.Ends.{lead_by, lead_of, lead, ends_at}

-- ---- one place, in facts
pub data Led (g : Grammar) (w : List ℕ) (E : ℕ → ℕ → Bool) (C : ℕ → ℕ → ℕ → Bool) (i j p : ℕ) (rest : Bool) : Type 0 where
  end : facing g p ≡ End → i ≡ j → Led g w E C i j p rest
  token : {k t : ℕ} → facing g p ≡ Token k → get_elem? w i ≡ some t → T (admits g k t) → T (C (suc p) (suc i) j) → Led g w E C i j p rest
  later : {b : ℕ} (m : ℕ) → facing g p ≡ Nonterminal b → i < m → m ≤ length w → T (E b m) → T (C (suc p) m j) → Led g w E C i j p rest
  here : {b : ℕ} → facing g p ≡ Nonterminal b → T (E b i) → T rest → Led g w E C i j p rest

module _ (g : Grammar) (w : List ℕ) (E : ℕ → ℕ → Bool) (C : ℕ → ℕ → ℕ → Bool) (i j : ℕ) where
  -- along a production, place by place
  pub lead-place : (p : ℕ) → lead g w E C i j p ≡ lead_by g w E C i j p (facing g p) (lead g w E C i j (suc p))
  unfolding lead lead_of lead_by
  lead-place p = rw (suffix-is g p) (go (facing g p))
    where
      go : (s : Symbol) → lead_of g w E C i j p (before s (suffix g (suc p))) ≡ lead_by g w E C i j p s (lead_of g w E C i j (suc p) (suffix g (suc p)))
      go (Token k) = refl
      go (Nonterminal b) = refl
      go End = refl

  module _ (p : ℕ) (rest : Bool) where
    pub led-in : Led g w E C i j p rest → T (lead_by g w E C i j p (facing g p) rest)
    unfolding lead_by
    led-in (end e q) = rw (e, q) (eqb_refl j)
    led-in (token {k = k} {t = t} e d a x) = rw e (T_and (matches_at g w i k) (C (suc p) (suc i) j) (matches-in g w i k d a) x)
    led-in (later {b = b} m e l h x y) =
        rw e (T-or-l (through_of (E b) C (suc p) j (suc i) (length w)) (E b i && rest) (through-in (E b) C (suc p) j (suc i) (length w) m l h x y))
    led-in (here {b = b} e x y) = rw e (T-or-r (through_of (E b) C (suc p) j (suc i) (length w)) (E b i && rest) (T_and (E b i) rest x y))

    led-token : (k : ℕ) → facing g p ≡ Token k → T (matches_at g w i k) → T (C (suc p) (suc i) j) → Led g w E C i j p rest
    led-token k e m x = go (matches-out g w i k m)
      where
        go : (t : ℕ) × (get_elem? w i ≡ some t) × T (admits g k t) → Led g w E C i j p rest
        go (t, d, a) = token e d a x

    led-call : (b : ℕ) → facing g p ≡ Nonterminal b → T (through_of (E b) C (suc p) j (suc i) (length w)) ⊎ T (E b i && rest)
        → Led g w E C i j p rest
    led-call b e (inl t) = go (through-out (E b) C (suc p) j (suc i) (length w) t)
      where
        go : (m : ℕ) × (suc i ≤ m) × (m ≤ length w) × T (E b m) × T (C (suc p) m j) → Led g w E C i j p rest
        go (m, l, h, x, y) = later m e l h x y
    led-call b e (inr t) = let h = and_T (E b i) rest t in here e h.0 h.1

    pub led-out : T (lead_by g w E C i j p (facing g p) rest) → Led g w E C i j p rest
    unfolding lead_by
    led-out t = go (facing g p) refl t
      where
        go : (s : Symbol) → facing g p ≡ s → T (lead_by g w E C i j p s rest) → Led g w E C i j p rest
        go (Token k) e t = let h = and_T (matches_at g w i k) (C (suc p) (suc i) j) t in led-token k e h.0 h.1
        go (Nonterminal b) e t = led-call b e (or-T (through_of (E b) C (suc p) j (suc i) (length w)) (E b i && rest) t)
        go End e t = end e (eqb→eq i j t)

-- ---- a nonterminal's ends
module _ (g : Grammar) (w : List ℕ) (i : ℕ) where
  pub ends-in : (a b : ℕ) {f j : ℕ} {r : List ℕ} → first g a b ≡ some f → Der g w f i j r → T (ends_at g w i a j)
  unfolding ends_at
  ends-in a b {f} {j} e x = let (n, d) = first_pos g a b f e in T-any_of (λ f. derives? g w f i j) (alternatives g a) n d (derives-complete g w x)

  pub ends-out : (a j : ℕ) → T (ends_at g w i a j) → (b : ℕ) × (f : ℕ) × (first g a b ≡ some f) × DerivesBy g w f i j
  unfolding ends_at
  ends-out a j t = go (any_of-T (λ f. derives? g w f i j) (alternatives g a) t)
    where
      go : (n : ℕ) × (f : ℕ) × (get_elem? (alternatives g a) n ≡ some f) × T (derives? g w f i j) → (b : ℕ) × (f : ℕ)
          × (first g a b ≡ some f) × DerivesBy g w f i j
      go (n, f, e, t) = (suc n, f, e, derives-sound g w t)

-- what is known of a grammar of N nonterminals and of the cells: places of productions are kept, and at later positions the cells are right
pub record Known (g : Grammar) (N : ℕ) (w : List ℕ) (C : ℕ → ℕ → ℕ → Bool) (i : ℕ) : Type 0 where
  pub kept : Kept g (λ p. p < g.size)
  pub named : (p a : ℕ) → facing g p ≡ Nonterminal a → a < N
  pub called : (a b f : ℕ) → first g a b ≡ some f → a < N
  pub short : length w < position_count
  pub right : (q m j : ℕ) → q < g.size → i < m → m ≤ length w → j < position_count → C q m j ≡ derives? g w q m j

module _ (g : Grammar) (N : ℕ) (w : List ℕ) (C : ℕ → ℕ → ℕ → Bool) (i : ℕ) (known : Known g N w C i) (E : ℕ → ℕ → Bool) where
  cell_out : (q m j : ℕ) → q < g.size → i < m → m ≤ length w → j < position_count → T (C q m j) → DerivesBy g w q m j
  cell_out q m j h l k n t = derives-sound g w (rw (known.right q m j h l k n) at t)

  cell_in : {q m j : ℕ} {r : List ℕ} → q < g.size → i < m → Der g w q m j r → T (C q m j)
  cell_in {q} {m} {j} h l x =
      let a = der-le x in
      let b = der-in x in
      let s = known.short in
      rw (known.right q m j h l (omega arith) (omega arith)) (derives-complete g w x)

  -- every end that E holds is one
  abbrev pub Sound : Type 0
  Sound = (a j : ℕ) → a < N → j < position_count → T (E a j) → T (ends_at g w i a j)

  -- ---- what one place leads to is derived
  module _ (sound : Sound) (j : ℕ) (l : j < position_count) (p : ℕ) (h : p < g.size) where
    called-out : (b m : ℕ) → facing g p ≡ Nonterminal b → T (E b m) → m ≤ length w → DerivesBy g w (suc p) m j → DerivesBy g w p i j
    called-out b m e x k (s, y) =
        let n = known.short in
        let (c, f, d, (r, z)) = ends-out g w i b m (sound b m (known.named p b e) (omega arith) x) in
        (c ∷ (r ++ s), Der.expand e d z y)

    by-sound : (rest : Bool) → i ≤ length w → ((b : ℕ) → facing g p ≡ Nonterminal b → T rest → DerivesBy g w (suc p) i j)
        → Led g w E C i j p rest
        → DerivesBy g w p i j
    by-sound rest k rec (end e q) = ([], rw (← q) (Der.finish {i = i} e k))
    by-sound rest k rec (token e d a x) =
        let n = get-below w i d in
        let (r, y) = cell_out (suc p) (suc i) j (known.kept.next p h (λ q. clash (cc))) (omega arith) n l x in
        (r, Der.match e d a y)
    by-sound rest k rec (later {b = b} m e u v x y) =
        called-out b m e x v (cell_out (suc p) m j (known.kept.next p h (λ q. clash (cc))) u v l y)
    by-sound rest k rec (here {b = b} e x y) = called-out b i e x k (rec b e y)

  -- and so is what the rest of a production leads to, d places before the last
  pub lead-sound : Sound → i ≤ length w → (j : ℕ) → j < position_count → (d p : ℕ) → p + d ≡ g.size → p < g.size → T (lead g w E C i j p)
      → DerivesBy g w p i j
  lead-sound sound k j l zero p e h t = absurd (omega arith)
  lead-sound sound k j l (suc d) p e h t =
      by-sound sound j l p h (lead g w E C i j (suc p)) k
      (λ b q y. lead-sound sound k j l d (suc p) (omega arith) (known.kept.next p h (λ z. clash (cc))) y)
      (led-out g w E C i j p (lead g w E C i j (suc p)) (rw (lead-place g w E C i j p) at t))

  -- ---- where a nonterminal is called: E holds the end m of the call, and the next place goes on from there
  call-in : (p a m j : ℕ) {s : List ℕ} (rest : Bool) → p < g.size → facing g p ≡ Nonterminal a → i ≤ m → T (E a m) → Der g w (suc p) m j s
      → (m ≡ i → T rest)
      → T (lead_by g w E C i j p (facing g p) rest)
  call-in p a m j rest h e l x y rec = ⊎_elim at_i after-i (same? m i)
    where
      at_i : m ≡ i → T (lead_by g w E C i j p (facing g p) rest)
      at_i q = led-in g w E C i j p rest (here e (rw q at x) (rec q))

      after-i : (m ≡ i → ⊥) → T (lead_by g w E C i j p (facing g p) rest)
      after-i n =
          let u = der-le y in
          let v = der-in y in
          led-in g w E C i j p rest (later m e (omega arith) (omega arith) x (cell_in (known.kept.next p h (λ q. clash (cc))) (omega arith) y))

  -- looking along a production of a adds nothing to E
  abbrev pub Closed : Type 0
  Closed = (a b f j : ℕ) → first g a b ≡ some f → j < position_count → T (lead g w E C i j f) → T (E a j)

  pub lead-complete : Closed → {p i' j : ℕ} {r : List ℕ} → Der g w p i' j r → i' ≡ i → p < g.size → T (lead g w E C i j p)
  lead-complete closed (Der.finish {p = p} {i = i'} e l) q h =
      rw lead-place (led-in g w E C i i' p (lead g w E C i i' (suc p)) (end e (sym q)))
  lead-complete closed (Der.match {p = p} {i = i'} {j = j} e d t x) q h =
      let y = cell_in (known.kept.next p h (λ z. clash (cc))) (omega arith) x in
      rw lead-place (led-in g w E C i j p (lead g w E C i j (suc p)) (token e (rw q at d) t (rw q at y)))
  lead-complete closed (Der.expand {p = p} {a = a} {b = b} {f = f} {i = i'} {m = m} {j = j} e d x y) q h =
      let u = der-le x in
      let v = der-in x in
      let s = known.short in
      let z = closed a b f m d (omega arith) (lead-complete closed x q (known.kept.starts a b f d)) in
      rw lead-place (call-in p a m j (lead g w E C i j (suc p)) h e (omega arith) z y
      (λ k. lead-complete closed y k (known.kept.next p h (λ z. clash (cc)))))

  -- so E is right when it is sound and closed
  pub ends-exact : Sound → Closed → (a j : ℕ) → a < N → j < position_count → E a j ≡ ends_at g w i a j
  ends-exact sound closed a j h l = same (E a j) (ends_at g w i a j) (sound a j h l) (λ t. back (ends-out g w i a j t))
    where
      back : (b : ℕ) × (f : ℕ) × (first g a b ≡ some f) × DerivesBy g w f i j → T (E a j)
      back (b, f, e, (r, x)) = closed a b f j e l (lead-complete closed x refl (known.kept.starts a b f e))

  -- ---- by right ends the cell of a place follows from the cell of the place behind it
  module _ (exact : (a j : ℕ) → a < N → j < position_count → E a j ≡ ends_at g w i a j) where
    by-complete : {p i' j : ℕ} {r : List ℕ} → Der g w p i' j r → i' ≡ i → p < g.size
        → T (lead_by g w E C i j p (facing g p) (derives? g w (suc p) i j))
    by-complete (Der.finish {p = p} {i = i'} e l) q h = led-in g w E C i i' p (derives? g w (suc p) i i') (end e (sym q))
    by-complete (Der.match {p = p} {i = i'} {j = j} e d t x) q h =
        let y = cell_in (known.kept.next p h (λ z. clash (cc))) (omega arith) x in
        led-in g w E C i j p (derives? g w (suc p) i j) (token e (rw q at d) t (rw q at y))
    by-complete (Der.expand {p = p} {a = a} {b = b} {f = f} {i = i'} {m = m} {j = j} e d x y) q h =
        let u = der-le x in
        let v = der-in x in
        let s = known.short in
        let z : T (E a m) = rw (exact a m (known.called a b f d) (omega arith)) (ends-in g w i a b d (rw q at x)) in
        call-in p a m j (derives? g w (suc p) i j) h e (omega arith) z y (λ k. derives-complete g w (rw k at y))

    pub cell-exact : i ≤ length w → (p j : ℕ) → p < g.size → j < position_count
        → lead_by g w E C i j p (facing g p) (derives? g w (suc p) i j) ≡ derives? g w p i j
    cell-exact k p j h l = same (lead_by g w E C i j p (facing g p) (derives? g w (suc p) i j)) (derives? g w p i j) to from
      where
        to : T (lead_by g w E C i j p (facing g p) (derives? g w (suc p) i j)) → T (derives? g w p i j)
        to t =
            let (r, x) = by-sound (λ a j h l t. rw (exact a j h l) at t) j l p h (derives? g w (suc p) i j) k (λ b e y. derives-sound g w y)
            (led-out g w E C i j p (derives? g w (suc p) i j) t) in
            derives-complete g w x

        from : T (derives? g w p i j) → T (lead_by g w E C i j p (facing g p) (derives? g w (suc p) i j))
        from t = let (r, x) = derives-sound g w t in by-complete x refl h
