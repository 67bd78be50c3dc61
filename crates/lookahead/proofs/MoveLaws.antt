-- The computed moves are the moves.
use mathlib.Core.Path.{◌≡◌, refl, sym, ap, subst}
use mathlib.Core.Logic.{◌↔◌, ◌⊎◌, inl, inr}
use mathlib.Core.Bool.{Bool, true, false, cond}
use mathlib.Core.Option.{some}
use mathlib.Core.List.Memᴰ
use mathlib.Core.List.{List, [], ◌∷◌}
use Prim.Native.Nat.{ℕ, zero, suc, ◌+◌}
use native.Mathlib.Omega.{arith}
use lib.Dec.{eqb}
use lib.ListN.{get_or}
use borrow.Author.Tests.{eqb-true, eq-eqb}
use Rattle.base.proofs.Booleans.{clash}
use Rattle.grammar.specs.declared.Symbol.{Symbol}
use Rattle.grammar.specs.declared.Symbol.TheVariants.{Token, Nonterminal, End}
use Rattle.grammar.specs.declared.Place.{Place}
use Rattle.grammar.specs.Limits.{end_place}
use Rattle.grammar.specs.Grammar.{Grammar, facing, owner, alternatives, first, nowhere}
use Rattle.lookahead.specs.Configs.{Config, config, In, Moves, enter, pop, behind, end, calls?, behind_from, follows, entered, returned, moves_at, moves}
use Rattle.lookahead.proofs.ListLaws.{map-in, in_map, get_in, in-get}

-- ---- places behind occurrences
calls-yes : (a : ℕ) (s : Symbol) → calls? a s ≡ true → s ≡ Nonterminal a
calls-yes a (Token k) e = clash (cc)
calls-yes a (Nonterminal b) e = ap Nonterminal (eqb-true b a e)
calls-yes a End e = clash (cc)

-- x stands behind an occurrence of nonterminal a in a list of places, the first of which is place p
abbrev Behind : ℕ → ℕ → List Place → ℕ → Type 0
Behind a p l x = (q : ℕ) × (x ≡ suc (p + q)) × ((get_or l q nowhere).symbol ≡ Nonterminal a)

behind-out : (a p : ℕ) (l : List Place) (x : ℕ) → In x (behind_from a p l) → Behind a p l x
unfolding behind_from
behind-out a p [] x m = absurd (Memᴰ.not-nil m)
behind-out a p (y ∷ l) x m = go (calls? a y.symbol) refl m (behind-out a (suc p) l x)
  where
    later : Behind a (suc p) l x → Behind a p (y ∷ l) x
    later (q, e, h) = (suc q, omega arith, h)

    here : calls? a y.symbol ≡ true → x ≡ suc p → Behind a p (y ∷ l) x
    here c e = (0, omega arith, calls-yes a y.symbol c)

    go : (b : Bool) → calls? a y.symbol ≡ b → In x (cond b (suc p ∷ behind_from a (suc p) l) (behind_from a (suc p) l))
        → (In x (behind_from a (suc p) l) → Behind a (suc p) l x) → Behind a p (y ∷ l) x
    go true c n rec = pick (Memᴰ.cases_cons n)
      where
        pick : (x ≡ suc p) ⊎ In x (behind_from a (suc p) l) → Behind a p (y ∷ l) x
        pick (inl e) = here c e
        pick (inr k) = later (rec k)
    go false c n rec = later (rec n)

behind-in : (a p : ℕ) (l : List Place) (q : ℕ) → (get_or l q nowhere).symbol ≡ Nonterminal a → In (suc (p + q)) (behind_from a p l)
unfolding behind_from
behind-in a p [] q e = clash (cc)
behind-in a p (y ∷ l) zero e =
    let c : calls? a y.symbol ≡ true = rw e (eq-eqb a a refl) in
    let z : p + 0 ≡ p = omega arith in
    rw (c, z) (Memᴰ.head refl)
behind-in a p (y ∷ l) (suc q) e = go (calls? a y.symbol) (behind-in a (suc p) l q e)
  where
    go : (b : Bool) → In (suc (suc p + q)) (behind_from a (suc p) l)
        → In (suc (p + suc q)) (cond b (suc p ∷ behind_from a (suc p) l) (behind_from a (suc p) l))
    go true rec = let z : p + suc q ≡ suc p + q = omega arith in rw z (Memᴰ.tail rec)
    go false rec = let z : p + suc q ≡ suc p + q = omega arith in rw z rec

-- x stands behind an occurrence of nonterminal a, or is the end place and a the start symbol
abbrev Follows : Grammar → ℕ → ℕ → Type 0
Follows g a x = ((q : ℕ) × (x ≡ suc q) × (facing g q ≡ Nonterminal a)) ⊎ ((x ≡ end_place) × (a ≡ 0))

module _ (g : Grammar) where
  follows-out : (a x : ℕ) → In x (follows g a) → Follows g a x
  unfolding follows facing
  follows-out a x m = go (Memᴰ.append_cases (behind_from a 0 g.places) m)
    where
      last : (b : Bool) → eqb a 0 ≡ b → In x (cond b (end_place ∷ []) []) → (x ≡ end_place) × (a ≡ 0)
      last true e n = (Memᴰ.eq_of_singleton n, eqb-true a 0 e)
      last false e n = absurd (Memᴰ.not-nil n)

      go : In x (behind_from a 0 g.places) ⊎ In x (cond (eqb a 0) (end_place ∷ []) []) → Follows g a x
      go (inl n) = let t = behind-out a 0 g.places x n in let z = t.1 in inl (t.0, omega arith, t.2)
      go (inr n) = inr (last (eqb a 0) refl n)

  follows-behind : (a q : ℕ) → facing g q ≡ Nonterminal a → In (suc q) (follows g a)
  unfolding follows facing
  follows-behind a q e =
      let z : suc q ≡ suc (0 + q) = omega arith in
      Memᴰ.append_left (cond (eqb a 0) (end_place ∷ []) []) (Memᴰ.cast z (behind-in a 0 g.places q e))

  follows-end : (a : ℕ) → a ≡ 0 → In end_place (follows g a)
  unfolding follows
  follows-end a e = Memᴰ.append_right (behind_from a 0 g.places) (rw (eq-eqb a 0 e) (Memᴰ.head refl))

  -- ---- moves
  module _ (c d : Config) where
    entered-out : (a : ℕ) → facing g c.place ≡ Nonterminal a → In d (entered g c a) → Moves g c d
    unfolding entered
    entered-out a e m =
        let t = in_map (λ (f : ℕ). config f c.alternative (suc c.place ∷ c.stack)) (alternatives g a) m in
        let n = in-get t.1 in
        subst (Moves g c) (sym t.2) (enter (suc n.0) e n.1)

    returned-out : (s : List ℕ) → c.stack ≡ s → facing g c.place ≡ End → In d (returned g c s) → Moves g c d
    unfolding returned
    returned-out [] h e m =
        let t = in_map (λ (q : ℕ). config q c.alternative []) (follows g (owner g c.place)) m in
        subst (Moves g c) (sym t.2) (go t.0 (follows-out (owner g c.place) t.0 t.1))
      where
        go : (x : ℕ) → Follows g (owner g c.place) x → Moves g c (config x c.alternative [])
        go x (inl (q, i, f)) = subst (λ (y : ℕ). Moves g c (config y c.alternative [])) (sym i) (behind e h f)
        go x (inr (i, z)) = subst (λ (y : ℕ). Moves g c (config y c.alternative [])) (sym i) (end e h z)
    returned-out (r ∷ s) h e m = subst (Moves g c) (sym (Memᴰ.eq_of_singleton m)) (pop e h)

    moves_out : (y : Symbol) → facing g c.place ≡ y → In d (moves_at g c y) → Moves g c d
    unfolding moves_at
    moves_out (Token k) e m = absurd (Memᴰ.not-nil m)
    moves_out (Nonterminal a) e m = entered-out a e m
    moves_out End e m = returned-out c.stack refl e m

  -- at a production's end over this stack
  at-end : (c d : Config) (s : List ℕ) → facing g c.place ≡ End → c.stack ≡ s → In d (returned g c s) → In d (moves g c)
  unfolding moves moves_at
  at-end c d s e h m = rw e (subst (λ (l : List ℕ). In d (returned g c l)) (sym h) m)

  moves-in : (c d : Config) → Moves g c d → In d (moves g c)
  unfolding moves moves_at entered returned
  moves-in c d (enter {a = a} b e f) = go b f
    where
      go : (n : ℕ) {x : ℕ} → first g a n ≡ some x → In (config x c.alternative (suc c.place ∷ c.stack)) (moves_at g c (facing g c.place))
      go zero q = clash (cc)
      go (suc n) q = rw e (map-in (λ (x : ℕ). config x c.alternative (suc c.place ∷ c.stack)) (get_in (alternatives g a) n q))
  moves-in c d (pop {r = r} {s = s} e h) = at-end c (config r c.alternative s) (r ∷ s) e h (Memᴰ.head refl)
  moves-in c d (behind {q = q} e h f) =
      at-end c (config (suc q) c.alternative []) [] e h (map-in (λ (x : ℕ). config x c.alternative []) (follows-behind (owner g c.place) q f))
  moves-in c d (end e h z) = at-end c (config end_place c.alternative []) [] e h
      (map-in (λ (x : ℕ). config x c.alternative []) (follows-end (owner g c.place) z))

  -- the computed list holds exactly the moves
  pub moves-right : (c d : Config) → In d (moves g c) ↔ Moves g c d
  unfolding moves
  moves-right c d = (λ m. moves_out c d (facing g c.place) refl m, moves-in c d)
