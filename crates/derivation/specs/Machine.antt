-- The machine that reads a note: a stack of places at a position of the note; at each nonterminal a chooser names an alternative. It has room for
-- so many alternatives. A chooser carries a state from choice to choice: the plain one carries nothing and takes the lowest alternative with which
-- the rest of the note can be read, the quick one carries the words of its cache.
use Rattle.std.specs.Prelude.{Bool, false, cond, ℕ, zero, suc, pred, ◌+◌, ◌*◌, eqb, length}
use Rattle.std.proofs.Math.Option.{Option, none, some}
use mathlib.Core.List.{List, [], ◌∷◌}
use Rattle.std.proofs.Math.ListN.{get_elem?}
use Rattle.base.specs.Search.{lowest_from}
use Rattle.grammar.specs.declared.Symbol.{Symbol}
use Rattle.grammar.specs.declared.Symbol.TheVariants.{Token, Nonterminal, End}
use Rattle.grammar.specs.Limits.{end_place}
use Rattle.grammar.specs.Grammar.{Grammar, facing, admits, alternatives, first}
use Rattle.derivation.specs.Cells.{runs?}

-- ---- choosers
-- what a chooser answers: an alternative, or none, and its state after that
pub record Choice (C : Type 0) : Type 0 where
  pub alternative : Option ℕ
  pub state : C

abbrev pub choice : {C : Type 0} → Option ℕ → C → Choice C
choice o c = record { alternative = o; state = c }

-- a chooser: from a state it answers for a nonterminal over the stack that stays open, at a position
abbrev pub Chooser : Type 0 → Type 0
Chooser C = C → List ℕ → ℕ → ℕ → Choice C

-- the production that begins at this place serves
unfoldable pub serves? : Grammar → List ℕ → List ℕ → ℕ → Option ℕ → Bool
unfolding runs?
serves? g w S i none = false
serves? g w S i (some f) = runs? g w (f ∷ S) i

-- the lowest alternative that serves; alternatives count from 1, and number 0 is none
unfoldable pub lowest : Grammar → List ℕ → List ℕ → ℕ → ℕ → Option ℕ
unfolding lowest_from serves? alternatives
lowest g w S a i = lowest_from (λ b. serves? g w S i (first g a b)) 0 (suc (length (alternatives g a)))

-- the plain chooser takes that one, and carries nothing
abbrev pub plainly : Grammar → List ℕ → Chooser (Unit {0})
plainly g w c S a i = choice (lowest g w S a i) c

-- ---- the machine
-- how reading ends: with the alternatives taken, in order; where nothing fits; where there is no room for one alternative more
pub data Conclusion : Type 0 where
  accepted : List ℕ → Conclusion
  stuck : Conclusion
  full : Conclusion

-- alternative b, and then this outcome
abbrev pub prefix : ℕ → Conclusion → Conclusion
prefix b (accepted r) = accepted (b ∷ r)
prefix b stuck = stuck
prefix b full = full

-- the alternatives of a list, and then this outcome
unfoldable pub after : List ℕ → Conclusion → Conclusion
after [] o = o
after (b ∷ l) o = prefix b (after l o)

-- what the machine does next: end; go on with this stack at this position; take an alternative and go on with this stack
pub data Action : Type 0 where
  halt : Conclusion → Action
  move : List ℕ → ℕ → Action
  pick : ℕ → List ℕ → Action

-- a step, and the chooser's state after it
pub record Moved (C : Type 0) : Type 0 where
  pub step : Action
  pub state : C

abbrev pub moved : {C : Type 0} → Action → C → Moved C
moved x c = record { step = x; state = c }

-- an outcome, and the chooser's state after the reading
pub record Ended (C : Type 0) : Type 0 where
  pub outcome : Conclusion
  pub state : C

abbrev pub ended : {C : Type 0} → Conclusion → C → Ended C
ended o c = record { outcome = o; state = c }

-- the alternatives of a list, and then this end
abbrev pub beyond : {C : Type 0} → List ℕ → Ended C → Ended C
beyond l e = ended (after l e.outcome) e.state

-- the stack's top p faces kind k, and this token stands at i
unfoldable pub on_token : Grammar → ℕ → List ℕ → ℕ → ℕ → Option ℕ → Action
unfolding admits
on_token g p S i k none = halt stuck
on_token g p S i k (some t) = cond (admits g k t) (move (suc p ∷ S) (suc i)) (halt stuck)

-- a nonterminal over the stack S that stays open: its alternative b, by its first place
abbrev pub on_first : List ℕ → ℕ → Option ℕ → Action
on_first S b none = halt stuck
on_first S b (some f) = pick b (f ∷ S)

unfoldable pub on_choice : Grammar → List ℕ → ℕ → Option ℕ → Action
unfolding alternatives
on_choice g S a none = halt stuck
on_choice g S a (some b) = on_first S b (first g a b)

abbrev pub chosen : {C : Type 0} → Grammar → List ℕ → ℕ → Choice C → Moved C
chosen g S a x = moved (on_choice g S a x.alternative) x.state

-- nonterminal a waits over the stack S that stays open; with no room left the chooser is not asked
unfoldable pub on_call : {C : Type 0} → Grammar → Chooser C → C → List ℕ → ℕ → ℕ → ℕ → Moved C
unfolding on_choice
on_call g choose c S a i zero = moved (halt full) c
on_call g choose c S a i (suc room) = chosen g S a (choose c S a i)

module _ {C : Type 0} (g : Grammar) (w : List ℕ) (choose : Chooser C) where
  -- the stack's top p faces this symbol
  unfoldable pub on_symbol : C → ℕ → List ℕ → ℕ → ℕ → Symbol → Moved C
  unfolding on_token on_call
  on_symbol c p S i room (Token k) = moved (on_token g p S i k (get_elem? w i)) c
  on_symbol c p S i room (Nonterminal a) = on_call g choose c (suc p ∷ S) a i room
  on_symbol c p S i room End = moved (move S i) c

  -- the next step of an open stack at position i, with room for so many alternatives
  unfoldable pub step : C → List ℕ → ℕ → ℕ → Moved C
  unfolding on_symbol facing
  step c [] i room = moved (cond (eqb i (length w)) (halt (accepted [])) (halt stuck)) c
  step c (p ∷ S) i room = on_symbol c p S i room (facing g p)

-- alternative b, and then this end
abbrev pub prefixed : {C : Type 0} → ℕ → Ended C → Ended C
prefixed b e = ended (prefix b e.outcome) e.state

-- what a step leads to, where `on` says what follows
abbrev pub follow_step : {C : Type 0} → (List ℕ → ℕ → ℕ → C → Ended C) → ℕ → ℕ → Action → C → Ended C
follow_step on i room (halt o) c = ended o c
follow_step on i room (move S i') c = on S i' room c
follow_step on i room (pick b S) c = prefixed b (on S i (pred room) c)

abbrev pub follow : {C : Type 0} → (List ℕ → ℕ → ℕ → C → Ended C) → ℕ → ℕ → Moved C → Ended C
follow on i room m = follow_step on i room m.step m.state

-- so many steps of the machine
unfoldable pub run : {C : Type 0} → Grammar → List ℕ → Chooser C → ℕ → List ℕ → ℕ → ℕ → C → Ended C
unfolding step
run g w choose zero S i room c = ended stuck c
run g w choose (suc k) S i room c = follow (run g w choose k) i room (step g w choose c S i room)

-- from where nonterminal a waits over the stack S that stays open: its choice, and then so many steps
unfoldable pub run_call : {C : Type 0} → Grammar → List ℕ → Chooser C → ℕ → List ℕ → ℕ → ℕ → ℕ → C → Ended C
unfolding on_call run
run_call g w choose k S a i room c = follow (run g w choose k) i room (on_call g choose c S a i room)

-- the reading of a row of tokens, its end mark included: nonterminal 0 over the end place, and then steps enough for every reading: two for each
-- alternative that there is room for and one for each token
unfoldable pub reading : {C : Type 0} → Grammar → List ℕ → Chooser C → ℕ → C → Ended C
unfolding run_call
reading g w choose room c = run_call g w choose (suc (2 * room + length w)) (end_place ∷ []) 0 0 room c
