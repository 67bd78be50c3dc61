-- The filter drops nothing that can be read to the end.
use mathlib.Core.Path.{◌≡◌}
use mathlib.Core.Logic.{◌⊎◌, inl, inr}
use mathlib.Core.List.{List, ◌∷◌, ◌++◌}
use Prim.Native.Nat.{ℕ, suc}
use lib.Dec.{T}
use lib.ListN.{length}
use Rattle.grammar.specs.declared.Symbol.TheVariants.{Nonterminal}
use Rattle.grammar.specs.Grammar.{Grammar, facing, owner}
use Rattle.grammar.specs.inside.Ordered.{Ordered}
use Rattle.derivation.specs.Runs.{Run}
use Rattle.derivation.specs.inside.BigSteps.{Der, Split}
use Rattle.derivation.proofs.RunLaws.{run-split, run-token}
use Rattle.first_follow.specs.inside.Masks.{Masks, Closed}
use Rattle.filtering.specs.inside.Beginnings.{Begins, Vanishes, token_at}
use Rattle.filtering.specs.inside.Filtered.{DerF}
use Rattle.filtering.specs.inside.OpenStacks.{Open, bottom, frame}
use Rattle.filtering.proofs.StartLaws.{mark-at, begins-follow, begins}

module _ {g : Grammar} {M : Masks} {w : List ℕ} where
  -- A1: the filter only drops
  pub der_f-der : {p i j : ℕ} {r : List ℕ} → DerF g M w p i j r → Der g w p i j r
  der_f-der (DerF.finish e l) = Der.finish e l
  der_f-der (DerF.match e d t x) = Der.match e d t (der_f-der x)
  der_f-der (DerF.expand e d x h y) = Der.expand e d (der_f-der x) (der_f-der y)

module _ {g : Grammar} {M : Masks} {w : List ℕ} (order : Ordered g) (c : Closed g M) where
  -- what is left behind a call derives a stretch whose end may be followed by what follows there: then the call's end may be followed too
  behind-call : {p a m j : ℕ} {r : List ℕ} → facing g p ≡ Nonterminal a → Der g w (suc p) m j r → T (M.follows (token_at w j) (owner g p))
      → T (M.follows (token_at w m) a)
  behind-call {p} {a} {m} {j} e y h = go (begins c y)
    where
      go : Begins g M (token_at w m) (suc p) ⊎ (Vanishes g (suc p) × (m ≡ j)) → T (M.follows (token_at w m) a)
      go (inl b) = begins-follow c e b
      go (inr ((q, s, d), z)) = c.follow-end p a q (token_at w m) e s d (rw z h)

  -- a derivation whose end may be followed passes the filter
  pub der-filter : {p i j : ℕ} {r : List ℕ} → Der g w p i j r → T (M.follows (token_at w j) (owner g p)) → DerF g M w p i j r
  der-filter (Der.finish e l) h = DerF.finish e l
  der-filter (Der.match {p = p} {k = k} e d t x) h = DerF.match e d t (der-filter x (rw (order.token-on p k e) h))
  der-filter (Der.expand {p = p} {a = a} {b = b} {f = f} e d x y) h =
      let k = behind-call e y h in
      DerF.expand e d (der-filter x (rw (order.owns a b f d) k)) k (der-filter y (rw (order.call-on p a e) h))

  -- A4: what is read over an open stack may follow the nonterminal whose production stands over it
  pub follow-right : {a m : ℕ} {S r : List ℕ} → Open g a S → Run g w S m (length w) r → T (M.follows (token_at w m) a)
  follow-right {m = m} bottom x =
      let (t, d, k, y) = run-token x order.marked_end in rw (mark-at g w m d k) c.follow-mark
  follow-right {m = m} {r = r} (frame {p = p} {a = a} {S = S} e o) x = go ((run-split (suc p) S m (length w) r).0 x) (λ n s z. follow-right o z)
    where
      go : Split g w (suc p) S m (length w) r → ((n : ℕ) (s : List ℕ) → Run g w S n (length w) s → T (M.follows (token_at w n) (owner g p)))
          → T (M.follows (token_at w m) a)
      go (n, r₁, r₂, y, z, q) rec = behind-call e y (rec n r₂ z)

  -- A5: a run is a filtered derivation of its top place and a run of the rest
  pub run-filter : {p i : ℕ} {S r : List ℕ} → Open g (owner g p) S → Run g w (p ∷ S) i (length w) r
      → (m : ℕ) × (r₁ : List ℕ) × (r₂ : List ℕ) × DerF g M w p i m r₁ × Run g w S m (length w) r₂ × (r ≡ r₁ ++ r₂)
  run-filter {p} {i} {S} {r} o x = go ((run-split p S i (length w) r).0 x)
    where
      go : Split g w p S i (length w) r → (m : ℕ) × (r₁ : List ℕ) × (r₂ : List ℕ) × DerF g M w p i m r₁ × Run g w S m (length w) r₂ × (r ≡ r₁ ++ r₂)
      go (m, r₁, r₂, y, z, q) = (m, r₁, r₂, der-filter y (follow-right o z), z, q)
