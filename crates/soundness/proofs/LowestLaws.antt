-- The searches of the check find the lowest nonterminal at fault, in the textbook's words (refusals 6 and 7).
use mathlib.Core.Bool.{Bool, true, false, not}
use Prim.Native.Nat.{◌<◌}
use lib.Dec.{T}
use lib.ListN.{length}
use Rattle.base.specs.Search.{LowestIs}
use Rattle.base.proofs.Lowest.{lowest-is}
use Rattle.grammar.specs.Grammar.{Grammar, of_places}
use Rattle.closures.specs.Textbook.{Productive, LeftRecursive}
use Rattle.closures.specs.Closures.{productive?}
use Rattle.corners.specs.Corners.{left_recursive?}
use Rattle.soundness.specs.Check.{lowest_unproductive, lowest_left_recursive}
use Rattle.closures.proofs.Deriving.{productive-iff}
use Rattle.corners.proofs.LeftRecursion.{left_recursive-iff, reaches-from}

not_T : (b : Bool) → T (not b) → ¬ T b
not_T true t s = t
not_T false t s = s

T_not : (b : Bool) → ¬ T b → T (not b)
T_not true h = h tt
T_not false h = tt

pub lowest-unproductive : (g : Grammar) → LowestIs (λ a. (a < length g.starts) × ¬ Productive (of_places g) a) (lowest_unproductive g)
unfolding lowest_unproductive
lowest-unproductive g =
    lowest-is (λ a. (a < length g.starts) × ¬ Productive (of_places g) a) (λ a. not (productive? g a)) (length g.starts)
    (λ a l t. (l, λ h. not_T (productive? g a) t ((productive-iff g a).1 h)))
    (λ a x. (T_not (productive? g a) (λ t. x.1 ((productive-iff g a).0 t)), x.0))

pub lowest-left-recursive : (g : Grammar) → LowestIs (LeftRecursive (of_places g)) (lowest_left_recursive g)
unfolding lowest_left_recursive
lowest-left-recursive g =
    lowest-is (LeftRecursive (of_places g)) (left_recursive? g) (length g.starts)
    (λ a l t. (left_recursive-iff g a).0 t) (λ a x. ((left_recursive-iff g a).1 x, reaches-from g x))
