-- A list of quick readings by one grammar over one cache agrees with the plain reading: what demand 3 says, of the definitions.
use Rattle.std.specs.Prelude.{◌≡◌, List, [], ◌∷◌, ℕ, ◌≤◌, length}
use Rattle.grammar.specs.Grammar.{Grammar}
use Rattle.derivation.specs.Space.{space_words}
use Rattle.derivation.specs.Gate.{at_gate, note_gate}
use Rattle.lookahead.specs.Configs.{In}
use Rattle.adaptive.specs.Quick.{quick_note}
use Rattle.adaptive.specs.Calls.{Call, quick, plain, in_turn, last_words}
use Rattle.adaptive.specs.Teaching.{Teaches, TeachesAll}

-- the same words, worked out: a step in proofs
unfoldable pub taught : Grammar → List ℕ → Call → List ℕ
unfolding note_gate quick_note
taught g c k = at_gate (λ n p. c) (λ g. (quick_note g k.note (length k.row) c).state) (note_gate g k.note k.space)

unfoldable pub taught_all : Grammar → List ℕ → List Call → List ℕ
unfolding taught
taught_all g c [] = c
taught_all g c (k ∷ ks) = taught_all g (taught g c k) ks

-- one reading of the list: c are the words that the one before it left, `earlier` the calls before it
pub record Agrees (s : List ℕ) (g : Grammar) (c : List ℕ) (earlier : List Call) (k : Call) : Type 0 where
  -- number, place, count and every row entry are those of the plain reading
  pub answer : (quick s c k).answer ≡ plain s k
  -- the cache holds exactly what the learning rules give
  pub learned : Teaches g c k (quick s c k).words
  -- a note that was read before in enough working space, with a row of the same length, leaves every word as found
  pub nothing-new : (j : Call) → In j earlier → j.note ≡ k.note → space_words g.size (length j.note) ≤ j.space → length j.row
      ≡ length k.row
      → (quick s c k).words ≡ c

-- the whole list, each reading taking the words as the last one left them
abbrev pub AllAgree : List ℕ → Grammar → List ℕ → List Call → List Call → Type 0
AllAgree s g c earlier [] = Unit {0}
AllAgree s g c earlier (k ∷ ks) = Agrees s g c earlier k × AllAgree s g (quick s c k).words (k ∷ earlier) ks

-- a list of readings over words c
pub record Agreement (s : List ℕ) (g : Grammar) (c : List ℕ) (ks : List Call) : Type 0 where
  -- each reading agrees
  pub each : AllAgree s g c [] ks
  -- and at the end the cache holds what the learning rules give from c by the notes and the rows' lengths
  pub words : TeachesAll g c ks (last_words c (in_turn (quick s) c ks))
