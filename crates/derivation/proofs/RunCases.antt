-- Small cases of the table, of open stacks and of readings, by computing the definitions.
use mathlib.Core.Path.{◌≡◌, refl}
use mathlib.Core.Bool.{true, false}
use mathlib.Core.List.{List, [], ◌∷◌}
use Prim.Native.Nat.{ℕ}
use Rattle.grammar.specs.declared.Symbol.TheVariants.{Token, Nonterminal}
use Rattle.grammar.specs.Limits.{end_place}
use Rattle.grammar.specs.Decode.{Rules}
use Rattle.grammar.specs.Grammar.{compile}
use Rattle.derivation.specs.Runs.{marked}
use Rattle.derivation.specs.Cells.{derives?, runs?}
use Rattle.derivation.specs.Machine.{Conclusion, accepted, stuck, full, lowest, plainly, reading}

-- nonterminal 0 is kind 1, itself, kind 2, or nothing; its productions begin at places 0 and 4
abbrev nested : Rules
nested = record { kinds = 2; productions = ((Token 1 ∷ Nonterminal 0 ∷ Token 2 ∷ []) ∷ [] ∷ []) ∷ [] }

pair-derives : derives? (compile nested) (1 ∷ 1 ∷ 2 ∷ 2 ∷ []) 0 0 4 ≡ true
unfolding derives? compile
pair-derives = refl

part-derives : derives? (compile nested) (1 ∷ 1 ∷ 2 ∷ 2 ∷ []) 0 1 3 ≡ true
unfolding derives? compile
part-derives = refl

part-fails : derives? (compile nested) (1 ∷ 1 ∷ 2 ∷ 2 ∷ []) 0 0 3 ≡ false
unfolding derives? compile
part-fails = refl

nothing-past-the-end : derives? (compile nested) [] 4 1 1 ≡ false
unfolding derives? compile
nothing-past-the-end = refl

whole-runs : runs? (compile nested) (marked (1 ∷ 2 ∷ [])) (0 ∷ end_place ∷ []) 0 ≡ true
unfolding runs? compile
whole-runs = refl

empty-by-second : runs? (compile nested) (marked []) (4 ∷ end_place ∷ []) 0 ≡ true
unfolding runs? compile
empty-by-second = refl

whole-fails : runs? (compile nested) (marked (1 ∷ 1 ∷ 2 ∷ [])) (0 ∷ end_place ∷ []) 0 ≡ false
unfolding runs? compile
whole-fails = refl

-- a sentence, a row that is none, and no room
abbrev read : List ℕ → ℕ → Conclusion
read w room = (reading (compile nested) (marked w) (plainly (compile nested) (marked w)) room tt).outcome

sentence-read : read (1 ∷ 2 ∷ []) 4 ≡ accepted (1 ∷ 2 ∷ [])
unfolding reading lowest compile
sentence-read = refl

other_stuck : read (1 ∷ 1 ∷ 2 ∷ []) 4 ≡ stuck
unfolding reading lowest compile
other_stuck = refl

no_room : read (1 ∷ 2 ∷ []) 1 ≡ full
unfolding reading lowest compile
no_room = refl
