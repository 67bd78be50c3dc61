-- The closure of some configurations, worked out by a worklist within the scope's limits.
use Rattle.std.specs.Prelude.{Bool, true, false, ◌&&◌, cond, List, [], ◌∷◌, ◌++◌, ℕ, zero, suc, eqb, ltb, leb, length}
use Rattle.std.proofs.Math.Option.{Option, none, some}
use Rattle.std.proofs.Math.ListN.{get_elem?}
use Rattle.base.specs.Rounds.{any_of}
use Rattle.grammar.specs.Grammar.{Grammar}
use Rattle.lookahead.specs.Configs.{Config, moves}

-- the members that a closed set may have
abbrev pub max_members : ℕ
max_members = 256

-- the entries that a member's stack may have
abbrev pub max_entries : ℕ
max_entries = 8

-- the configurations that may be kept of it
abbrev pub max_kept : ℕ
max_kept = 64

-- the same numbers in the same order
unfoldable pub same_list : List ℕ → List ℕ → Bool
same_list [] [] = true
same_list [] (y ∷ l) = false
same_list (x ∷ k) [] = false
same_list (x ∷ k) (y ∷ l) = let rest = same_list k l in eqb x y && rest

-- the same configuration
unfoldable pub same_config : Config → Config → Bool
unfolding same_list
same_config c d = eqb c.place d.place && (eqb c.alternative d.alternative && same_list c.stack d.stack)

-- d is one of the members
unfoldable pub member? : Config → List Config → Bool
unfolding any_of same_config
member? d ms = any_of (λ (c : Config). same_config d c) ms

-- a stack that is not too deep
unfoldable pub shallow : Config → Bool
shallow c = leb (length c.stack) max_entries

-- the members with d among them, a new one last; none at a member too many or a stack too deep
unfoldable pub add : List Config → Config → Option (List Config)
unfolding member? shallow
add ms d = cond (member? d ms) (some ms) (cond (shallow d && ltb (length ms) max_members) (some (ms ++ (d ∷ []))) none)

-- the members with all of these among them
unfoldable pub add_all : List Config → List Config → Option (List Config)
unfolding add
add_all ms [] = some ms
add_all ms (d ∷ ds) = elim (add ms d) [ none ↦ none | some ms' ↦ add_all ms' ds ]

-- the worklist: the moves of member k, then of those behind it, n members at most
unfoldable pub close_from : Grammar → ℕ → ℕ → List Config → Option (List Config)
unfolding add_all moves
close_from g zero k ms = some ms
close_from g (suc n) k ms = elim (get_elem? ms k)
    [ none ↦ some ms | some c ↦ elim (add_all ms (moves g c)) [ none ↦ none | some ms' ↦ close_from g n (suc k) ms' ] ]

-- the closed set; none if it has more than 256 members or a stack of more than 8 entries
unfoldable pub close : Grammar → List Config → Option (List Config)
unfolding add_all close_from
close g start = elim (add_all [] start) [ none ↦ none | some ms ↦ close_from g max_members 0 ms ]
