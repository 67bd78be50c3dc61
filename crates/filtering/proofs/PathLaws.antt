-- For a reading that asks pairs from the machine's stack: all that is asked on the way down the stack is called, whatever was chosen before.
use mathlib.Core.Path.{◌≡◌, refl}
use mathlib.Core.Option.{some}
use mathlib.Core.List.{List, [], ◌∷◌}
use Prim.Native.Nat.{ℕ, suc}
use Rattle.base.proofs.Booleans.{clash}
use Rattle.grammar.specs.declared.Symbol.TheVariants.{Nonterminal, End}
use Rattle.grammar.specs.Limits.{end_place}
use Rattle.grammar.specs.Grammar.{Grammar, facing, owner, first}
use Rattle.derivation.specs.inside.BigSteps.{Der, DerivesBy}
use Rattle.derivation.specs.inside.Steps.{Step, popped, matched, picked}
use Rattle.derivation.specs.inside.Reach.{Reach, start, match, call, return}
use Rattle.derivation.proofs.ReachLaws.{reach-in}
use Rattle.first_follow.specs.inside.Masks.{Masks}
use Rattle.filtering.specs.inside.Filtered.{Ends}
use Rattle.filtering.specs.inside.OpenStacks.{Open, bottom, frame, Stands, Reached}
use Rattle.filtering.proofs.FilterLaws.{der_f-der}
use Rattle.filtering.proofs.StackLaws.{calls-open}

no-open : {g : Grammar} {a : ℕ} {S : List ℕ} → Open g a S → S ≡ [] → ⊥
no-open bottom q = clash (cc)
no-open (frame e o) q = clash (cc)

module _ (g : Grammar) (w : List ℕ) where
  pub reached-start : (b f : ℕ) → first g 0 b ≡ some f → Reached g w (f ∷ end_place ∷ []) 0
  unfolding Reached
  reached-start b f d = (start b d, λ m x. tt)

  pop : (p i : ℕ) (S : List ℕ) → facing g p ≡ End → Reached g w (p ∷ S) i → Reached g w S i
  unfolding Reached
  pop p i [] e x = tt
  pop p i (q ∷ S) e (x, h) = h i ([], Der.finish e (reach-in x))

  pass : (p i : ℕ) (S : List ℕ) → (Reach g w p i → Reach g w (suc p) (suc i)) → ((m : ℕ) → DerivesBy g w (suc p) (suc i) m → DerivesBy g w p i m)
      → Reached g w (p ∷ S) i → Reached g w (suc p ∷ S) (suc i)
  unfolding Reached
  pass p i [] r d x = tt
  pass p i (q ∷ S) r d (x, h) = (r x, λ m y. h m (d m y))

  enter : (p a b f i : ℕ) (S : List ℕ) → facing g p ≡ Nonterminal a → first g a b ≡ some f → Open g (owner g p) S → Reached g w (p ∷ S) i
      → Reached g w (f ∷ suc p ∷ S) i
  unfolding Reached
  enter p a b f i [] e d o x = absurd (no-open o refl)
  enter p a b f i (q ∷ S) e d o (x, h) =
      (call b x e d, λ m y. (return b x e d y.1, λ n z. h n (_, Der.expand {b = b} e d y.1 z.1)))

  -- every step of the machine keeps it, whatever is chosen
  pub reached-step : {S S' : List ℕ} {i i' : ℕ} → Stands g S → Reached g w S i → Step g w S i S' i' → Reached g w S' i'
  reached-step s x (popped {p = p} {i = i} {S = S} e) = pop p i S e x
  reached-step s x (matched {p = p} {i = i} {S = S} e d a) =
      pass p i S (λ y. match y e d a) (λ m y. (y.0, Der.match e d a y.1)) x
  reached-step s x (picked {p = p} {a = a} {f = f} {i = i} {S = S} b e d) = enter p a b f i S e d (calls-open s e) x

  -- ---- on the way down
  pub reached-down : {M : Masks} {q i m : ℕ} (r : ℕ) (S : List ℕ) → Reached g w (q ∷ r ∷ S) i → Ends g M w q i m → Reached g w (r ∷ S) m
  unfolding Reached
  reached-down r S (x, h) (s, y) = h _ (s, der_f-der y)
