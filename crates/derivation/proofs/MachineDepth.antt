-- The machine makes single steps, whatever chooser it asks; so its open frames keep to the bound, sentences or not.
use mathlib.Core.Path.{◌≡◌, ap}
use mathlib.Core.Option.{some}
use mathlib.Core.List.{List, [], ◌∷◌}
use Prim.Native.Nat.{ℕ, suc, ◌+◌, ◌*◌, ◌/◌, ◌≤◌}
use lib.ListN.{length}
use Rattle.base.proofs.Booleans.{clash}
use Rattle.grammar.specs.Limits.{end_place}
use Rattle.grammar.specs.Decode.{Rules}
use Rattle.grammar.specs.Grammar.{Grammar, first, size_all, compile, Limited, of_places}
use Rattle.closures.specs.Textbook.{LeftRecursive}
use Rattle.derivation.specs.Runs.{marked}
use Rattle.derivation.specs.inside.Visits.{Visits, begins, moves, takes}
use Rattle.derivation.specs.inside.Steps.{popped, matched, picked}
use Rattle.derivation.specs.inside.Steps
use Rattle.derivation.specs.Machine.{Chooser, Action, move, pick, Moved, step}
use Rattle.derivation.specs.inside.Choosers.{names}
use Rattle.derivation.proofs.CompiledDepth.{marked-depth}
use Rattle.derivation.proofs.MachineLaws.{Seen, see}

module _ {C : Type 0} (g : Grammar) (w : List ℕ) (choose : Chooser C) (c : C) (S : List ℕ) (i room : ℕ) where
  -- where a move of the machine leads, the single steps lead
  pub machine-moves : {S' : List ℕ} {i' : ℕ} → (step g w choose c S i room).step ≡ move S' i' → Steps.Step g w S i S' i'
  machine-moves {S'} {i'} e = go (see g w choose c S i room) e
    where
      go : {x : Action} {S : List ℕ} {i room : ℕ} → Seen g w (names choose c) S i room x → x ≡ move S' i' → Steps.Step g w S i S' i'
      go (Seen.ended q) e = clash (cc)
      go (Seen.halted q) e = clash (cc)
      go (Seen.crammed q) e = clash (cc)
      go (Seen.popped {i = i₀} {S = T} q) e = let a : T ≡ S' = cc in let b : i₀ ≡ i' = cc in rw (← a, ← b) (popped q)
      go (Seen.matched {p = p} {i = i₀} {S = T} q d t) e = let a : suc p ∷ T ≡ S' = cc in let b : suc i₀ ≡ i' = cc in
          rw (← a, ← b) (matched q d t)
      go (Seen.picked q d t) e = clash (cc)

  -- and where it takes an alternative too
  pub machine-picks : {b : ℕ} {S' : List ℕ} → (step g w choose c S i room).step ≡ pick b S' → Steps.Step g w S i S' i
  machine-picks {b} {S'} e = go (see g w choose c S i room) e
    where
      go : {x : Action} {S : List ℕ} {i room : ℕ} → Seen g w (names choose c) S i room x → x ≡ pick b S' → Steps.Step g w S i S' i
      go (Seen.ended q) e = clash (cc)
      go (Seen.halted q) e = clash (cc)
      go (Seen.crammed q) e = clash (cc)
      go (Seen.popped q) e = clash (cc)
      go (Seen.matched q d t) e = clash (cc)
      go (Seen.picked {p = p} {b = b'} {f = f} {S = T} q d t) e = let a : f ∷ suc p ∷ T ≡ S' = cc in rw (← a) (picked b' q t)

module _ {C : Type 0} {g : Grammar} {w : List ℕ} {choose : Chooser C} {S₀ : List ℕ} {i₀ room₀ : ℕ} {c₀ : C} where
  -- so all that the machine comes to is come to by single steps
  pub visits-steps : {S : List ℕ} {i room : ℕ} {c : C} → Visits g w choose S₀ i₀ room₀ c₀ S i room c → Steps.Steps g w S₀ i₀ S i
  visits-steps begins = Steps.stay
  visits-steps (moves {S = S} {i = i} {room = room} {c = c} v e) =
      Steps.then (visits-steps v) (machine-moves g w choose c S i room (ap (λ (m : Moved C). m.step) e))
  visits-steps (takes {S = S} {i = i} {room = room} {c = c} v e) =
      Steps.then (visits-steps v) (machine-picks g w choose c S i room (ap (λ (m : Moved C). m.step) e))

-- the bound on open frames, for every reading of a note by a sound grammar: any chooser from any state, any room, sentence or not
pub machine-depth : {C : Type 0} (r : Rules) → Limited r → ((a : ℕ) → ¬ LeftRecursive (of_places (compile r)) a)
    → (w : List ℕ) (choose : Chooser C) (a b f : ℕ)
    → first (compile r) a b ≡ some f → (p i room₀ room : ℕ) (c₀ c : C) (S : List ℕ)
    → Visits (compile r) (marked w) choose (f ∷ end_place ∷ []) 0 room₀ c₀ (p ∷ S) i room c
    → length S ≤ (suc (size_all r.productions) / 2) * suc (length w) + 1
machine-depth r limits none w choose a b f e p i room₀ room c₀ c S v = marked-depth r limits none w a b f e p i S (visits-steps v)
