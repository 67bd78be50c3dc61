-- Places that a note reaches: they depend on the tokens before them only, and every position of a derivation has one.
use mathlib.Core.Path.{◌≡◌, sym, ◌∙◌}
use mathlib.Core.List.{List}
use Prim.Native.Nat.{ℕ, suc, ◌≤◌}
use native.Mathlib.Omega.{arith}
use native.Mathlib.Decide.{dec_le}
use lib.ListN.{length}
use Rattle.base.proofs.Lists.{get-below}
use Rattle.grammar.specs.Grammar.{Grammar}
use Rattle.derivation.specs.inside.BigSteps.{Der}
use Rattle.derivation.specs.inside.Reach.{Reach, start, match, call, return, Arrives}
use Rattle.derivation.proofs.Stretches.{Alike, alike-in}
use Rattle.derivation.proofs.RunLaws.{der-le, der-in}

-- ---- a place is reached by the tokens before it, whatever follows
module _ {g : Grammar} {w : List ℕ} where
  pub reach-in : {p i : ℕ} → Reach g w p i → i ≤ length w
  reach-in (start b e) = omega arith
  reach-in (match {i = i} x e d a) = get-below w i d
  reach-in (call b x e d) = reach-in x
  reach-in (return b x e d z) = der-in z

module _ {g : Grammar} {w w' : List ℕ} where
  pub der-alike : {p i j : ℕ} {r : List ℕ} → Der g w p i j r → (k : ℕ) → j ≤ k → Alike w w' k → Der g w' p i j r
  der-alike (Der.finish {i = i} e b) k l h = Der.finish e (alike-in w w' k i l h b)
  der-alike (Der.match {i = i} e d t x) k l h = let q = der-le x in Der.match e (sym (h i (omega arith)) ∙ d) t (der-alike x k l h)
  der-alike (Der.expand e d x y) k l h = let q = der-le y in Der.expand e d (der-alike x k (omega arith) h) (der-alike y k l h)

  pub reach-alike : {p i : ℕ} → Reach g w p i → (k : ℕ) → i ≤ k → Alike w w' k → Reach g w' p i
  reach-alike (start b e) k l h = start b e
  reach-alike (match {i = i} x e d a) k l h = match (reach-alike x k (omega arith) h) e (sym (h i l) ∙ d) a
  reach-alike (call b x e d) k l h = call b (reach-alike x k l h) e d
  reach-alike (return b x e d z) k l h = let q = der-le z in return b (reach-alike x k (omega arith) h) e d (der-alike z k l h)

-- ---- on the way of a big step some place is reached at every position
module _ {g : Grammar} {w : List ℕ} where
  pub on-the-way : {p i j : ℕ} {r : List ℕ} → Der g w p i j r → Reach g w p i → (k : ℕ) → i ≤ k → k ≤ j → Arrives g w k
  on-the-way (Der.finish {p = p} {i = i} e b) x k l h = let z : i ≡ k = omega arith in (p, rw z at x)
  on-the-way (Der.match {p = p} {i = i} {j = j} e d t y) x k l h = go (dec_le k i) (λ l h. on-the-way y (match x e d t) k l h)
    where
      go : Dec (k ≤ i) → (suc i ≤ k → k ≤ j → Arrives g w k) → Arrives g w k
      go (yes s) rec = let z : i ≡ k = omega arith in (p, rw z at x)
      go (no s) rec = rec (omega arith) h
  on-the-way (Der.expand {p = p} {b = b} {m = m} {j = j} e d y z) x k l h =
      go (dec_le k m) (λ h. on-the-way y (call b x e d) k l h) (λ l h. on-the-way z (return b x e d y) k l h)
    where
      go : Dec (k ≤ m) → (k ≤ m → Arrives g w k) → (m ≤ k → k ≤ j → Arrives g w k) → Arrives g w k
      go (yes s) rec₁ rec₂ = rec₁ s
      go (no s) rec₁ rec₂ = rec₂ (omega arith) h
