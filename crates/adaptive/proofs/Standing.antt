-- Where a reading of a whole note stands: every open place may return to the one below it, and the end place lies under everything until the end mark is
-- read. The machine's steps keep to that, so a token is left to read wherever a nonterminal waits and one of its alternatives serves.
use mathlib.Core.Path.{◌≡◌, refl}
use mathlib.Core.Option.{some}
use mathlib.Core.List.{List, [], ◌∷◌}
use Prim.Native.Nat.{ℕ, suc, ◌<◌}
use native.Mathlib.Omega.{arith}
use Rattle.base.proofs.Booleans.{clash}
use Rattle.grammar.specs.declared.Symbol.TheVariants.{Token, Nonterminal, End}
use Rattle.grammar.specs.Limits.{end_place}
use Rattle.grammar.specs.Grammar.{Grammar, facing, first}
use Rattle.grammar.specs.inside.Ordered.{Ordered}
use Rattle.derivation.specs.Runs.{Run, Opens}
use Rattle.derivation.specs.inside.Choosers.{Ground}
use Rattle.derivation.proofs.RunLaws.{run-le}
use Rattle.cache.proofs.PredictorLaws.{Stands as Asks}
use Rattle.lookahead.proofs.Following.{Valid, last, valid-below, valid-token, valid-call}

-- ---- the end place lies under everything until the end mark is read
pub data Based : List ℕ → Type 0 where
  floor : Based (end_place ∷ [])
  on : {p : ℕ} {S : List ℕ} → Based S → Based (p ∷ S)

pub data Rests : List ℕ → Type 0 where
  based : {S : List ℕ} → Based S → Rests S
  read : Rests (suc end_place ∷ [])
  over : Rests []

-- an open stack, at any position
abbrev pub Stands : Grammar → List ℕ → ℕ → Type 0
Stands g S i = Valid g S × Rests S

-- nonterminal a waits over a stack
abbrev pub Waits : Grammar → List ℕ → ℕ → ℕ → Type 0
Waits g S a i = ((b f : ℕ) → first g a b ≡ some f → Valid g (f ∷ S)) × Based S

module _ (g : Grammar) (ordered : Ordered g) where
  rests-end : (p : ℕ) (S : List ℕ) → facing g p ≡ End → Rests (p ∷ S) → Rests S
  rests-end p S e (based floor) = let h = ordered.marked_end in clash (cc)
  rests-end p S e (based (on h)) = based h
  rests-end p S e read = over

  rests-token : (p k : ℕ) (S : List ℕ) → facing g p ≡ Token k → Rests (p ∷ S) → Rests (suc p ∷ S)
  rests-token p k S e (based floor) = read
  rests-token p k S e (based (on h)) = based (on h)
  rests-token p k S e read = let h = ordered.end-past in clash (cc)

  rests-call : (p a : ℕ) (S : List ℕ) → facing g p ≡ Nonterminal a → Rests (p ∷ S) → Based S
  rests-call p a S e (based floor) = let h = ordered.marked_end in clash (cc)
  rests-call p a S e (based (on h)) = h
  rests-call p a S e read = let h = ordered.end-past in clash (cc)

  -- the machine's steps keep to it
  pub standing : Ground g (Stands g) (Waits g)
  standing = record {
    pops = λ p i S e y. (valid-below g p S y.0, rests-end p S e y.1);
    matches = λ p k i S e y. (valid-token g ordered p k S e y.0, rests-token p k S e y.1);
    calls = λ p a i S e y. ((λ b f q. valid-call g ordered p a b f S e q y.0), on (rests-call p a S e y.1));
    takes = λ a b f i S q y. (y.0 b f q, based (on y.1));
  }

  -- and a reading begins so
  pub first-waits : Waits g (end_place ∷ []) 0 0
  first-waits = ((λ b f q. (last (ordered.owns 0 b f q) refl, tt)), floor)

  -- ---- a token is left to read
  based-left : {w S r : List ℕ} {i j : ℕ} → Run g w S i j r → Based S → i < j
  based-left (Run.finish f x) floor = let h = ordered.marked_end in clash (cc)
  based-left (Run.finish f x) (on h) = based-left x h
  based-left (Run.match f d t x) h = omega (arith, run-le x)
  based-left (Run.expand f d x) floor = let h = ordered.marked_end in clash (cc)
  based-left (Run.expand f d x) (on h) = based-left x (on (on h))
  based-left {w = w} (Run.done {i = i} _) h = elim h [ ]

  -- and a predictor may be asked
  pub waits-asks : (w S : List ℕ) (a i b f : ℕ) → Waits g S a i → first g a b ≡ some f → Opens g w (f ∷ S) i → Asks g w (f ∷ S) i
  waits-asks w S a i b f y q o = (y.0 b f q, based-left o.1 (on y.1))
