-- The plain chooser names the lowest alternative that serves, so it is right.
use mathlib.Core.Path.{◌≡◌, refl}
use mathlib.Core.Option.{Option, none, some}
use mathlib.Core.List.{List, ◌∷◌}
use Prim.Native.Nat.{ℕ, zero, suc, ◌<◌, suc-le-suc}
use lib.Dec.{T}
use lib.ListN.{length}
use Rattle.base.specs.Search.{LowestIs, this, nothing}
use Rattle.base.proofs.Booleans.{clash}
use Rattle.base.proofs.Lowest.{lowest-is}
use Rattle.base.proofs.Lists.{get-below}
use Rattle.grammar.specs.Grammar.{Grammar, alternatives, first}
use Rattle.derivation.specs.Machine.{serves?, lowest, plainly}
use Rattle.derivation.specs.Runs.{Serves}
use Rattle.derivation.specs.inside.Choosers.{AnyState, Reliable}
use Rattle.derivation.proofs.CellLaws.{runs-iff}

module _ (g : Grammar) (w : List ℕ) where
  serves-sound : (S : List ℕ) (a i b : ℕ) → T (serves? g w S i (first g a b)) → Serves g w S a i b
  unfolding serves?
  serves-sound S a i b t = go (first g a b) refl t
    where
      go : (o : Option ℕ) → first g a b ≡ o → T (serves? g w S i o) → Serves g w S a i b
      go none e t = absurd t
      go (some f) e t = (f, e, (runs-iff g w (f ∷ S) i).0 t)

  pub first-lt : (a b f : ℕ) → first g a b ≡ some f → b < suc (length (alternatives g a))
  first-lt a zero f e = clash (cc)
  first-lt a (suc b) f e = suc-le-suc (get-below (alternatives g a) b e)

  serves-complete : (S : List ℕ) (a i b : ℕ) → Serves g w S a i b → T (serves? g w S i (first g a b)) × (b < suc (length (alternatives g a)))
  unfolding serves?
  serves-complete S a i b (f, e, x) = (rw e ((runs-iff g w (f ∷ S) i).1 x), first-lt a b f e)

  pub lowest-serves : (S : List ℕ) (a i : ℕ) → LowestIs (Serves g w S a i) (lowest g w S a i)
  unfolding lowest
  lowest-serves S a i =
      lowest-is (Serves g w S a i) (λ b. serves? g w S i (first g a b)) (suc (length (alternatives g a))) (λ b _ t. serves-sound S a i b t)
      (serves-complete S a i)

  -- so the plain chooser is right, wherever it is asked
  pub lowest-right : (Waits : List ℕ → ℕ → ℕ → Type 0) → Reliable AnyState (plainly g w) g w Waits
  lowest-right Waits = record { keeps = λ _ _ _ _ _. tt; serves = λ c S a i b _ _ x. go S a i b x (lowest g w S a i) refl (lowest-serves S a i) }
    where
      go : (S : List ℕ) (a i b : ℕ) → Serves g w S a i b → (o : Option ℕ) → lowest g w S a i ≡ o → LowestIs (Serves g w S a i) o
          → (d : ℕ) × (lowest g w S a i ≡ some d) × Serves g w S a i d
      go S a i b x o e (this d y l) = (d, e, y)
      go S a i b x o e (nothing n) = absurd (n b x)
