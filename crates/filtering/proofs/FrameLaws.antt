-- The same of the machine's stack in words: an open stack, and what is reached on the way down it, are kept by every step.
use mathlib.Core.Path.{◌≡◌}
use mathlib.Core.Option.{some}
use mathlib.Core.List.{List}
use Prim.Native.Nat.{ℕ, suc, ◌+◌, ◌*◌}
use lib.Dec.{T}
use lib.ListN.{get_or, get_elem?}
use Rattle.grammar.specs.declared.Symbol.TheVariants.{Token, End}
use Rattle.grammar.specs.Grammar.{Grammar, facing, admits}
use Rattle.grammar.specs.inside.Ordered.{Ordered}
use Rattle.derivation.specs.inside.Steps.{Step}
use Rattle.derivation.specs.inside.Frames.{frame_words, returns_of}
use Rattle.filtering.specs.inside.OpenStacks.{Stands, Reached, Standing}
use Rattle.filtering.proofs.StackLaws.{stands-step}
use Rattle.filtering.proofs.PathLaws.{reached-step}

module _ (g : Grammar) (order : Ordered g) (w : List ℕ) (base : ℕ) where
  step : {S S' : List ℕ} {i i' : ℕ} → Stands g S → Reached g w S i → Step g w S i S' i' → Stands g S' × Reached g w S' i'
  step x y s = (stands-step order x s, reached-step g w x y s)

  -- a production ends, and a token is read
  pub standing-pop : (ws : List ℕ) (d p i : ℕ) → facing g p ≡ End → Standing g w ws base (suc d) p i
      → Standing g w ws base d (get_or ws (base + frame_words * d) 0) i
  unfolding returns_of
  standing-pop ws d p i e h = let z = step h.stands h.reached (Step.popped e) in record { stands = z.0; reached = z.1 }

  pub standing-match : (ws : List ℕ) (d p k t i : ℕ) → facing g p ≡ Token k → get_elem? w i ≡ some t → T (admits g k t) → Standing g w ws base d p i
      → Standing g w ws base d (suc p) (suc i)
  standing-match ws d p k t i e f a h = let z = step h.stands h.reached (Step.matched e f a) in record { stands = z.0; reached = z.1 }
