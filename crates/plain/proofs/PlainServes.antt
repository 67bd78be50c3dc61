-- Along the machine's moves the rest of the note can still be read, if it could be at first; so some alternative serves where the next nonterminal waits.
use mathlib.Core.List.{List, ◌∷◌}
use Prim.Native.Nat.{ℕ}
use Rattle.grammar.specs.Grammar.{Grammar}
use Rattle.derivation.specs.Runs.{Opens, Serves}
use Rattle.derivation.specs.inside.Frames.{returns_of}
use Rattle.derivation.proofs.RunLaws.{run_end, run-token, run-over_call}
use Rattle.machine.specs.inside.Moves.{MovesOn, stay, popped, matched, ToCall}

module _ {g : Grammar} {w ws : List ℕ} {base p₀ d₀ i₀ : ℕ} where
  moves-opens : {p d i : ℕ} → MovesOn g w ws base p₀ d₀ i₀ p d i → Opens g w (p₀ ∷ returns_of ws base d₀) i₀ → Opens g w (p ∷ returns_of ws base d) i
  unfolding returns_of
  moves-opens stay x = x
  moves-opens (popped m e) x = let y = moves-opens m x in (y.0, run_end y.1 e)
  moves-opens (matched m e f a) x = let y = moves-opens m x in (y.0, (run-token y.1 e).3)

  pub serves-again : {q d i a : ℕ} → ToCall g w ws base p₀ d₀ i₀ q d i a → Opens g w (p₀ ∷ returns_of ws base d₀) i₀
      → (b : ℕ) × Serves g w (q ∷ returns_of ws base d) a i b
  serves-again m x =
      let y = moves-opens m.moves x in
      let (b, s, f, e, z, q) = run-over_call y.1 m.faces in
      rw m.behind (b, (f, e, (s, z)))
