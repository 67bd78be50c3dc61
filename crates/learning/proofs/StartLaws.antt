-- The code's gathering of a start: productions by their words in the tables.
use mathlib.Core.Path.{◌≡◌, sym, ap, ◌∙◌}
use mathlib.Core.List.{List, [], ◌∷◌}
use Prim.Native.Nat.{ℕ, suc, ◌+◌, ◌≤◌, ◌<◌}
use native.Mathlib.Omega.{arith}
use lib.ListN.{length, get_or, drop, drop_of_length-le}
use lib.Seq.{drop-cons}
use Rattle.grammar.specs.Limits.{max_productions}
use Rattle.grammar.specs.Grammar.{alternatives}
use Rattle.grammar.specs.inside.Tables.{grammar_in}
use Rattle.derivation.specs.inside.Ready.{Ready}
use Rattle.lookahead.specs.Configs.{Config, config}
use Rattle.lookahead.specs.Closing.{add_all}
use Rattle.lookahead.specs.Outcomes.{numbered, start_configs}
use Rattle.lookahead.proofs.Bounds.{compile-bounded}
use Rattle.configurations.specs.inside.Packed.{member_words}
use Rattle.configurations.specs.inside.Held.{configs_from, Room}
use Rattle.configurations.proofs.GrowSteps.{Left}

-- ---- before any member
blank-room : (ws : List ℕ) → length ws ≡ member_words → Room ws 0
blank-room ws e = record { few = omega arith; long = e; exact = λ k l. absurd (omega arith) }

pub blank-left : (ws : List ℕ) {l m : List Config} → length ws ≡ member_words → l ≡ m → Left ws 0 l (add_all [] m)
unfolding configs_from
blank-left ws long e = record { room = blank-room ws long; same = ap (add_all []) e }

-- ---- starts
-- the productions from number k on, where fs are the first places
unfoldable pub starting : List ℕ → ℕ → List Config
starting fs k = numbered (k + 1) (drop k fs)

pub starting-first : (fs : List ℕ) (k : ℕ) {f : ℕ} → k < length fs → f ≡ get_or fs k 0 → starting fs k ≡ config f (k + 1) [] ∷ starting fs (k + 1)
unfolding starting numbered
starting-first fs k h q =
    let z : suc (k + 1) ≡ k + 1 + 1 = omega arith in
    let y : suc k ≡ k + 1 = omega arith in
    ap (numbered (k + 1)) (drop-cons fs k 0 h) ∙ (λ i. config (sym q i) (k + 1) [] ∷ numbered (z i) (drop (y i) fs))

pub starting-none : (fs : List ℕ) (k : ℕ) → length fs ≤ k → starting fs k ≡ []
unfolding starting numbered
starting-none fs k h = let z : drop k fs ≡ [] = drop_of_length-le fs {i = k} h in rw z

module _ (t : List ℕ) (a : ℕ) {fs : List ℕ} (q : fs ≡ alternatives (grammar_in t) a) where
  pub starting-all : starting fs 0 ≡ start_configs (grammar_in t) a
  unfolding starting start_configs
  starting-all = ap (numbered 1) q

  -- alternatives are not too many
  pub number_small : Ready t → (k : ℕ) → k < length fs → k + 1 ≤ max_productions
  number_small ready k h =
      let few : length (alternatives (grammar_in t) a) ≤ max_productions = rw ready.says ((compile-bounded ready.rules ready.limited).few a) in
      omega (arith, ap length q, h, few)
