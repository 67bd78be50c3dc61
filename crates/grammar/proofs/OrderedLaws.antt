-- A compiled grammar is in order: its productions stand together, each begins at a place of its nonterminal, and the end place is behind them all.
use mathlib.Core.Path.{◌≡◌, refl, sym, ap, ◌∙◌}
use mathlib.Core.Logic.{◌⊎◌, inl, inr}
use mathlib.Core.Option.{some}
use mathlib.Core.List.{List, [], ◌∷◌, ◌++◌, append_assoc}
use Prim.Native.Nat.{ℕ, zero, suc, ◌+◌, ◌-◌, ◌≤◌}
use native.Mathlib.Nat.{add-zero, zero-add}
use native.Mathlib.Omega.{arith}
use lib.ListN.{length, get_or, get_elem?, replicate, length-append, length-replicate, get_or-eq_default}
use lib.Seq.{get_or_at}
use Rattle.base.proofs.Booleans.{clash}
use Rattle.grammar.specs.Types.{Symbol, Token, End, Place}
use Rattle.grammar.specs.Limits.{max_places, end_place, end_mark, nobody}
use Rattle.grammar.specs.Decode.{Rules}
use Rattle.grammar.specs.Grammar.{at, nowhere, facing, owner, alternatives}
use Rattle.grammar.specs.Grammar.{lay_one, lay_each, lay_all, size_each, starts_each, starts_all, padded, compile, Limited}
use Rattle.grammar.specs.Derivation.{oneth}
use Rattle.grammar.specs.inside.Ordered.{Ordered}
use Rattle.grammar.proofs.CompileLaws.{length-one, length-each, length-all}

-- ---- productions stand together: behind a place that is no end stands one of the same owner
data Laid : List Place → Type 0 where
  nil : Laid []
  last : {x : Place} → x.owner ≡ nobody → Laid (x ∷ [])
  end : {x : Place} {l : List Place} → x.symbol ≡ End → Laid l → Laid (x ∷ l)
  on : {x y : Place} {l : List Place} → y.owner ≡ x.owner → Laid (y ∷ l) → Laid (x ∷ y ∷ l)

laid-at : {l : List Place} → Laid l → (p : ℕ) → ((get_or l p nowhere).symbol ≡ End) ⊎ ((get_or l (suc p) nowhere).owner ≡ (get_or l p nowhere).owner)
laid-at nil p = inl refl
laid-at (last e) zero = inr (sym e)
laid-at (last e) (suc p) = inl refl
laid-at (end e h) zero = inl e
laid-at (end e h) (suc p) = laid-at h p
laid-at (on e h) zero = inr e
laid-at (on e h) (suc p) = laid-at h p

laid_one : (a : ℕ) (β : List Symbol) {l : List Place} → Laid l → Laid (lay_one a β ++ l)
unfolding lay_one
laid_one a [] h = end refl h
laid_one a (x ∷ []) h = on refl (laid_one a [] h)
laid_one a (x ∷ y ∷ β) h = on refl (laid_one a (y ∷ β) h)

laid_each : (a : ℕ) (n : List (List Symbol)) {l : List Place} → Laid l → Laid (lay_each a n ++ l)
unfolding lay_each
laid_each a [] h = h
laid_each a (β ∷ n) h = rw append_assoc (laid_one a β (laid_each a n h))

laid-all : (a : ℕ) (n : List (List (List Symbol))) {l : List Place} → Laid l → Laid (lay_all a n ++ l)
unfolding lay_all
laid-all a [] h = h
laid-all a (m ∷ n) h = rw append_assoc (laid_each a m (laid-all (suc a) n h))

laid-pad : (k : ℕ) → Laid (replicate k nowhere ++ (at nobody (Token end_mark) ∷ []))
laid-pad zero = last refl
laid-pad (suc k) = end refl (laid-pad k)

laid-padded : (n : List (List (List Symbol))) → Laid (padded (lay_all 0 n))
unfolding padded
laid-padded n = laid-all 0 n (laid-pad (max_places - length (lay_all 0 n)))

-- ---- every production begins at a place of its nonterminal
own-one : (a : ℕ) (β : List Symbol) (pre rest : List Place) (o : ℕ) → length pre ≡ o → (get_or (pre ++ (lay_one a β ++ rest)) o nowhere).owner ≡ a
unfolding lay_one
own-one a [] pre rest o e = rw (get_or_at pre (at a End) rest nowhere o e)
own-one a (x ∷ β) pre rest o e = rw (get_or_at pre (at a x) (lay_one a β ++ rest) nowhere o e)

own-each : (a : ℕ) (n : List (List Symbol)) (pre rest : List Place) (o : ℕ) → length pre ≡ o → (i f : ℕ) → get_elem? (starts_each o n) i ≡ some f
    → (get_or (pre ++ (lay_each a n ++ rest)) f nowhere).owner ≡ a
unfolding starts_each lay_each
own-each a [] pre rest o e i f q = clash (cc)
own-each a (β ∷ n) pre rest o e zero f q =
    let z : f ≡ o = cc in rw (append_assoc (lay_one a β) (lay_each a n) rest, z) (own-one a β pre (lay_each a n ++ rest) o e)
own-each a (β ∷ n) pre rest o e (suc i) f q =
    let l : length (pre ++ lay_one a β) ≡ o + suc (length β) = length-append pre (lay_one a β) ∙ omega (arith, length-one a β) in
    let h = own-each a n (pre ++ lay_one a β) rest (o + suc (length β)) l i f q in
    simp append_assoc (simp append_assoc at h)

own-all : (a : ℕ) (n : List (List (List Symbol))) (pre rest : List Place) (o : ℕ) → length pre ≡ o → (c b f : ℕ)
    → oneth (get_or (starts_all o n) c []) b ≡ some f → (get_or (pre ++ (lay_all a n ++ rest)) f nowhere).owner ≡ a + c
unfolding starts_all lay_all
own-all a n pre rest o e c zero f q = clash (cc)
own-all a [] pre rest o e c (suc b) f q = clash (cc)
own-all a (m ∷ n) pre rest o e zero (suc b) f q =
    rw (append_assoc (lay_each a m) (lay_all (suc a) n) rest, add-zero) (own-each a m pre (lay_all (suc a) n ++ rest) o e b f q)
own-all a (m ∷ n) pre rest o e (suc c) (suc b) f q =
    let l : length (pre ++ lay_each a m) ≡ o + size_each m = length-append pre (lay_each a m) ∙ omega (arith, length-each a m) in
    let h = own-all (suc a) n (pre ++ lay_each a m) rest (o + size_each m) l c (suc b) f q in
    let z : suc a + c ≡ a + suc c = omega arith in
    rw (← z) (simp append_assoc (simp append_assoc at h))

own-padded : (n : List (List (List Symbol))) (c b f : ℕ) → oneth (get_or (starts_all 0 n) c []) b ≡ some f
    → (get_or (padded (lay_all 0 n)) f nowhere).owner ≡ c
unfolding padded
own-padded n c b f q =
    own-all 0 n [] (replicate (max_places - length (lay_all 0 n)) nowhere ++ (at nobody (Token end_mark) ∷ [])) 0 refl c b f q ∙ zero-add c

-- ---- the end place is behind all places
module _ (l : List Place) (fits : length l ≤ max_places) where
  abbrev pad : List Place
  pad = replicate (max_places - length l) nowhere

  length-pad : length (l ++ pad) ≡ end_place
  length-pad = length-append l pad ∙ omega (arith, length-replicate (max_places - length l) nowhere)

  pub end-at : get_or (padded l) end_place nowhere ≡ at nobody (Token end_mark)
  unfolding padded
  end-at = rw (← append_assoc) (get_or_at (l ++ pad) (at nobody (Token end_mark)) [] nowhere end_place length-pad)

  past-at : get_or (padded l) (suc end_place) nowhere ≡ nowhere
  unfolding padded
  past-at =
      get_or-eq_default (padded l) nowhere {n = suc end_place}
      (rw (← append_assoc) (omega (arith, length-append (l ++ pad) (at nobody (Token end_mark) ∷ []), length-pad)))

-- ---- so a compiled grammar is in order
not_end : {x : Symbol} {A : Type 0} → (x ≡ End → ⊥) → (x ≡ End) ⊎ A → A
not_end h (inl e) = absurd (h e)
not_end h (inr a) = a

pub compile-ordered : (r : Rules) → Limited r → Ordered (compile r)
unfolding compile facing owner alternatives
compile-ordered r h =
    let l : List Place = lay_all 0 r.productions in
    let fits : length l ≤ max_places = omega (arith, length-all 0 r.productions, h.small) in
    record {
      marked_end = ap (λ (x : Place). x.symbol) (end-at l fits);
      end-past = ap (λ (x : Place). x.symbol) (past-at l fits);
      owns = own-padded r.productions;
      token-on = λ p k e. not_end (λ q. clash (cc)) (laid-at (laid-padded r.productions) p);
      call-on = λ p a e. not_end (λ q. clash (cc)) (laid-at (laid-padded r.productions) p);
    }
