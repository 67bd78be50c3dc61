-- The depth law for the grammars that the readings meet: rules within the limits that pass the check, a note with the end mark behind it, and the end
-- place under everything. At most (P + 1) / 2 · (n + 1) + 1 frames, whatever is chosen, and whether the note is a sentence or not.
use mathlib.Core.Path.{◌≡◌}
use mathlib.Core.Option.{some}
use mathlib.Core.List.{List, [], ◌∷◌, ◌++◌}
use Prim.Native.Nat.{ℕ, suc, ◌+◌, ◌*◌, ◌/◌, ◌≤◌}
use lib.ListN.{length}
use Rattle.grammar.specs.Limits.{end_place, end_mark}
use Rattle.grammar.specs.Decode.{Rules}
use Rattle.grammar.specs.Grammar.{Grammar, first, size_all, compile, Limited, of_places}
use Rattle.grammar.specs.inside.Ordered.{Ordered}
use Rattle.grammar.proofs.OrderedLaws.{compile-ordered}
use Rattle.grammar.proofs.PlaceLaws.{compile-within, compile-end-only, compile-nobody}
use Rattle.closures.specs.Textbook.{LeftRecursive}
use Rattle.derivation.specs.inside.Steps.{Steps, Quiet, Reads}
use Rattle.derivation.proofs.Depth.{depth, reads-marked}

-- the end place calls nothing
pub end_quiet : (g : Grammar) → Ordered g → Quiet g (end_place ∷ [])
end_quiet g ordered = Quiet.token ordered.marked_end (Quiet.end ordered.end-past Quiet.empty)

module _ (r : Rules) (limits : Limited r) where
  -- productions read the note's tokens only, never the end mark
  pub compile-reads : (w : List ℕ) → Reads (compile r) (w ++ (end_mark ∷ [])) (length w)
  compile-reads w = reads-marked (compile r) w (compile-end-only r limits) (compile-nobody r limits)

  module _ (none : (a : ℕ) → ¬ LeftRecursive (of_places (compile r)) a) where
    -- and over a note with the end mark behind it: the mark is no position more
    pub marked-depth : (w : List ℕ) (a b f : ℕ) → first (compile r) a b ≡ some f → (p i : ℕ) (S : List ℕ)
        → Steps (compile r) (w ++ (end_mark ∷ [])) (f ∷ end_place ∷ []) 0 (p ∷ S) i
        → length S ≤ (suc (size_all r.productions) / 2) * suc (length w) + 1
    marked-depth w a b f d p i S x =
        let ordered = compile-ordered r limits in
        depth (compile r) ordered (w ++ (end_mark ∷ [])) (length w) (compile-reads w) (end_place ∷ []) (end_quiet (compile r) ordered) none
        (size_all r.productions) (compile-within r limits) a b f d p i S x
