-- What the learning rules give for grammar G1, as one table: the six states of note 1 2, and what ends its predictions and those of note 1 2 2.
use Rattle.std.specs.Prelude.{◌≡◌, List, [], ◌∷◌, ℕ}
use Rattle.grammar.specs.Limits.{end_place, end_mark}
use Rattle.grammar.specs.Grammar.{Grammar, compile}
use Rattle.derivation.specs.Cases.{g1_rules}
use Rattle.lookahead.specs.Configs.{config}
use Rattle.lookahead.specs.Outcomes.{Outcome, full, alternative, state, start_outcome, step_outcome}

-- an outcome, and then steps over these tokens, as long as there is a state to step from
unfoldable pub walk : Grammar → Outcome → List ℕ → Outcome
unfolding step_outcome
walk g o [] = o
walk g full (t ∷ ts) = full
walk g (alternative b) (t ∷ ts) = alternative b
walk g (state ks) (t ∷ ts) = walk g (step_outcome g t ks) ts

-- a decision, the tokens that its prediction steps over, and what they give
pub record Walk : Type 0 where
  pub decision : ℕ
  pub tokens : List ℕ
  pub gives : Outcome

abbrev walking : ℕ → List ℕ → Outcome → Walk
walking a ts o = record { decision = a; tokens = ts; gives = o }

-- a case holds of G1
unfoldable pub WalkHolds : Walk → Type 0
unfolding compile start_outcome walk
WalkHolds c = walk (compile g1_rules) (start_outcome (compile g1_rules) c.decision) c.tokens ≡ c.gives

abbrev pub walks : List Walk
walks =
    walking 0 [] (state (config 5 1 (1 ∷ []) ∷ config 7 1 (1 ∷ []) ∷ config 5 2 (3 ∷ []) ∷ config 7 2 (3 ∷ []) ∷ []))
    ∷ walking 0 (1 ∷ []) (state (config end_place 1 [] ∷ config 3 2 [] ∷ config 8 1 (1 ∷ []) ∷ config 8 2 (3 ∷ []) ∷ []))
    ∷ walking 0 (1 ∷ 2 ∷ []) (state (config end_place 1 [] ∷ config 3 2 [] ∷ config end_place 2 [] ∷ []))
    ∷ walking 0 (1 ∷ 2 ∷ end_mark ∷ []) full
    ∷ walking 0 (1 ∷ 2 ∷ 2 ∷ []) (alternative 2)
    ∷ walking 1 [] (state (config 5 1 [] ∷ config 7 2 [] ∷ []))
    ∷ walking 1 (1 ∷ []) (state (config 3 1 [] ∷ config end_place 1 [] ∷ config 8 2 [] ∷ []))
    ∷ walking 1 (1 ∷ 2 ∷ []) (state (config end_place 1 [] ∷ config 3 2 [] ∷ config end_place 2 [] ∷ []))
    ∷ walking 1 (1 ∷ 2 ∷ end_mark ∷ []) full
    ∷ walking 1 (1 ∷ 2 ∷ 2 ∷ []) (alternative 2)
    ∷ []
