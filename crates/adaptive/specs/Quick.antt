-- What the quick reading answers and leaves, for any bytes, note, row, working space and cache: the scope's refusals in their order, as one
-- executable definition.
use Rattle.std.specs.Prelude.{true, false, List, ℕ, ltb, length}
use Rattle.grammar.specs.Grammar.{Grammar}
use Rattle.derivation.specs.Runs.{marked}
use Rattle.derivation.specs.Machine.{Ended, reading}
use Rattle.derivation.specs.Gate.{at_gate, gate}
use Rattle.derivation.specs.Plain.{Answer, refuse, on_conclusion}
use Rattle.words.specs.Layout.{min_words}
use Rattle.words.specs.Begin.{begun?}
use Rattle.cache.specs.Predict.{predict}
use Rattle.adaptive.specs.Chooser.{guided, adaptively}

-- an answer with its row, and the cache's words after it
pub record Reply : Type 0 where
  pub answer : Answer
  pub words : List ℕ

abbrev pub reply : Answer → List ℕ → Reply
reply a c = record { answer = a; words = c }

-- the note is read over the cache, with room for so many entries; what its predictions recorded stays
unfoldable pub quick_note : Grammar → List ℕ → ℕ → List ℕ → Ended (List ℕ)
unfolding reading guided predict
quick_note g w room c = reading g (marked w) (adaptively g (marked w)) room c

-- 10 and 14
abbrev pub reply_of : Grammar → List ℕ → List ℕ → Ended (List ℕ) → Reply
reply_of g w row e = reply (on_conclusion g w row e.outcome) e.state

-- 12, 13, and then the reading of a note that passed the gate
unfoldable pub over_cache : List ℕ → Grammar → List ℕ → List ℕ → List ℕ → Reply
unfolding begun? on_conclusion quick_note
over_cache s g w row c =
    elim (ltb (length c) min_words) [
      | true ↦ reply (refuse 12 0 row) c
      | false ↦ elim (begun? s c) [ true ↦ reply_of g w row (quick_note g w (length row) c) | false ↦ reply (refuse 13 0 row) c ]
    ]

-- the quick reading: what the gate refuses leaves the row and the cache as they were
unfoldable pub quick_reading : List ℕ → List ℕ → List ℕ → ℕ → List ℕ → Reply
unfolding gate over_cache
quick_reading s w row space c = at_gate (λ n p. reply (refuse n p row) c) (λ g. over_cache s g w row c) (gate s w space)
