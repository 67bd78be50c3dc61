-- What a derivation begins with: a derivation of some tokens begins with a token that the masks allow, a derivation of none passes nonterminals that derive
-- the empty row alone.
use mathlib.Core.Path.{◌≡◌, sym}
use mathlib.Core.Logic.{◌⊎◌, inl, inr}
use mathlib.Core.Option.{some}
use mathlib.Core.List.{List, [], ◌∷◌, append-nil}
use Prim.Native.Nat.{ℕ, suc, ◌<◌}
use native.Mathlib.Omega.{arith}
use native.Mathlib.Decide.{dec_lt}
use lib.Dec.{T, eqb→eq}
use lib.Seq.{slice_empty}
use lib.ListN.{get_elem?}
use Rattle.base.proofs.Lists.{get_or-get}
use Rattle.grammar.specs.declared.Symbol.TheVariants.{Nonterminal}
use Rattle.grammar.specs.Limits.{end_mark}
use Rattle.grammar.specs.Grammar.{Grammar, facing, admits, first, suffix, of_places}
use Rattle.grammar.specs.Derivation.{Leftmost}
use Rattle.grammar.proofs.GrammarLaws.{production-is}
use Rattle.closures.specs.Closures.{nullable?}
use Rattle.closures.proofs.Deriving.{nullable-iff}
use Rattle.derivation.specs.inside.BigSteps.{Der}
use Rattle.derivation.proofs.RunLaws.{der-le}
use Rattle.derivation.proofs.ViableLaws.{der→leftmost}
use Rattle.first_follow.specs.FirstFollow.{here, over}
use Rattle.first_follow.specs.inside.Masks.{Masks, Closed}
use Rattle.filtering.specs.inside.Beginnings.{token_at, Begins, Vanishes}

-- ---- tokens
-- a token that was read is the one at the position
pub admits-at : (g : Grammar) (w : List ℕ) (i k : ℕ) {t : ℕ} → get_elem? w i ≡ some t → T (admits g k t) → T (admits g k (token_at w i))
admits-at g w i k e a = rw (get_or-get w i end_mark e) a

-- where the end mark is called for, nothing else may stand
pub mark-at : (g : Grammar) (w : List ℕ) (i : ℕ) {t : ℕ} → get_elem? w i ≡ some t → T (admits g end_mark t) → token_at w i ≡ end_mark
unfolding admits
mark-at g w i e a = sym (eqb→eq end_mark (token_at w i) (admits-at g w i end_mark e a))

-- ---- nonterminals that derive the empty row
module _ {g : Grammar} {w : List ℕ} where
  -- a production that derives an empty stretch
  pub der-null : {f i j : ℕ} {r : List ℕ} (a b : ℕ) → Der g w f i j r → first g a b ≡ some f → i ≡ j → T (nullable? g a)
  der-null {f} {i} {j} {r} a b x d e = (nullable-iff g a).1 (b ∷ r, Leftmost.expand {α = []} (production-is g a b d) (rw append-nil none))
    where
      none : Leftmost (of_places g) (suffix g f) r []
      none = rw (← e, slice_empty) at (der→leftmost x)

-- ---- what may begin
module _ {g : Grammar} {M : Masks} where
  pub begins-over : {p c t : ℕ} → facing g p ≡ Nonterminal c → T (nullable? g c) → Begins g M t (suc p) → Begins g M t p
  begins-over e n (Begins.token s d a) = Begins.token (over e n s) d a
  begins-over e n (Begins.call s d u) = Begins.call (over e n s) d u

  -- the first place of a production
  pub begins-start : {f t : ℕ} (a b : ℕ) → Closed g M → first g a b ≡ some f → Begins g M t f → T (M.starts t a)
  begins-start {f} {t} a b c d (Begins.token {q = q} {k = k} s e u) = c.start-token a b f q k t d s e u
  begins-start {f} {t} a b c d (Begins.call {q = q} {c = x} s e u) = c.start-call a b f q x t d s e u

  -- the place behind a nonterminal
  pub begins-follow : {p a t : ℕ} → Closed g M → facing g p ≡ Nonterminal a → Begins g M t (suc p) → T (M.follows t a)
  begins-follow {p} {a} {t} c d (Begins.token {q = q} {k = k} s e u) = c.follow-token p a q k t d s e u
  begins-follow {p} {a} {t} c d (Begins.call {q = q} {c = x} s e u) = c.follow-call p a q x t d s e u

vanishes-over : {g : Grammar} {p c : ℕ} → facing g p ≡ Nonterminal c → T (nullable? g c) → Vanishes g (suc p) → Vanishes g p
vanishes-over e n (q, s, d) = (q, over e n s, d)

-- ---- derivations
module _ {g : Grammar} {w : List ℕ} where
  -- of no token
  pub der-vanishes : {p i j : ℕ} {r : List ℕ} → Der g w p i j r → i ≡ j → Vanishes g p
  der-vanishes (Der.finish {p = p} e l) q = (p, here, e)
  der-vanishes (Der.match e d t x) q = let l = der-le x in absurd (omega arith)
  der-vanishes (Der.expand {a = a} {b = b} e d x y) q =
      let l = der-le x in let k = der-le y in vanishes-over e (der-null a b x d (omega arith)) (der-vanishes y (omega arith))

  -- of some tokens
  pub der-begins : {M : Masks} {p i j : ℕ} {r : List ℕ} → Closed g M → Der g w p i j r → i < j → Begins g M (token_at w i) p
  der-begins c (Der.finish e l) h = absurd (omega arith)
  der-begins c (Der.match {k = k} {i = i} e d t x) h = Begins.token here e (admits-at g w i k d t)
  der-begins {M} c (Der.expand {p = p} {a = a} {b = b} {f = f} {i = i} {m = m} {j = j} e d x y) h =
      go (dec_lt i m) (λ l. der-begins c x l) (λ l. der-begins c y l)
    where
      go : Dec (i < m) → (i < m → Begins g M (token_at w i) f) → (m < j → Begins g M (token_at w m) (suc p)) → Begins g M (token_at w i) p
      go (yes l) one rest = Begins.call here e (begins-start a b c d (one l))
      go (no l) one rest =
          let k = der-le x in
          let z : i ≡ m = omega arith in
          begins-over e (der-null a b x d z) (rw (← z) at (rest (omega arith)))

  -- A2: a production that derives some tokens starts with the first of them
  pub start_right : {M : Masks} {f i j : ℕ} {r : List ℕ} (a b : ℕ) → Closed g M → first g a b ≡ some f → Der g w f i j r → i < j
      → T (M.starts (token_at w i) a)
  start_right a b c d x l = begins-start a b c d (der-begins c x l)

  -- A3: both ways for a place
  pub begins : {M : Masks} {p i j : ℕ} {r : List ℕ} → Closed g M → Der g w p i j r → Begins g M (token_at w i) p ⊎ (Vanishes g p × (i ≡ j))
  begins {M} {p} {i} {j} c x = go (dec_lt i j)
    where
      go : Dec (i < j) → Begins g M (token_at w i) p ⊎ (Vanishes g p × (i ≡ j))
      go (yes l) = inl (der-begins c x l)
      go (no l) = let k = der-le x in let z : i ≡ j = omega arith in inr (der-vanishes x z, z)
