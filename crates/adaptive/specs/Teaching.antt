-- What a quick call teaches its cache, in the scope's words: by the note and the row's length alone, and nothing where the call is refused before it reads.
use Rattle.std.specs.Prelude.{List, [], ◌∷◌, ℕ, ◌≤◌, length}
use Rattle.grammar.specs.Grammar.{Grammar}
use Rattle.derivation.specs.Space.{max_tokens, space_words}
use Rattle.derivation.specs.Demand2.{Known}
use Rattle.adaptive.specs.Calls.{Call}
use Rattle.adaptive.specs.Proceeding.{ReadsNote}

-- a call that is not refused with 8, 9 or 11
pub record Admits (g : Grammar) (k : Call) : Type 0 where
  pub short : length k.note ≤ max_tokens
  pub known : Known g.kinds k.note
  pub roomy : space_words g.size (length k.note) ≤ k.space

-- the words that the learning rules give from words c for a call: by the note and the row's length alone; nothing is added after 8, 9 or 11
pub data Teaches (g : Grammar) (c : List ℕ) (k : Call) : List ℕ → Type 0 where
  refused : ¬ Admits g k → Teaches g c k c
  read : {d : List ℕ} → Admits g k → ReadsNote g k.note (length k.row) c d → Teaches g c k d

-- and for a list of calls, each over the words of the one before
pub data TeachesAll (g : Grammar) : List ℕ → List Call → List ℕ → Type 0 where
  none : {c : List ℕ} → TeachesAll g c [] c
  next : {c d e : List ℕ} {k : Call} {ks : List Call} → Teaches g c k d → TeachesAll g d ks e → TeachesAll g c (k ∷ ks) e
