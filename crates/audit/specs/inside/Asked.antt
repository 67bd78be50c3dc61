-- What the code asks of words that have begun.
use Rattle.std.specs.Prelude.{Bool, true, false, List, ℕ, ◌+◌, ◌≤◌, length, Ok, Err}
use Rattle.grammar.specs.Grammar.{Grammar}
use Rattle.derivation.specs.inside.Ready.{Ready}
use Rattle.words.specs.Layout.{min_words, fixed_words, bytes_at}
use Rattle.auditing.specs.Coherence.{right?}
use Rattle.audit.specs.Contract.{Audit}
use Rattle.audit.specs.declared.answer.AuditRefusal.TheVariants.{Incoherent}

-- the tables of a sound grammar, words that are long enough, and n words of grammar bytes
pub record Asks (t c : List ℕ) (n : ℕ) : Type 0 where
  pub ready : Ready t
  pub long : min_words ≤ length c
  pub few : bytes_at + n ≤ fixed_words

-- 19, or a yes
abbrev pub judged_by : Bool → Audit
judged_by true = Ok tt
judged_by false = Err Incoherent

unfoldable pub judged_of : Grammar → ℕ → List ℕ → Audit
unfolding right?
judged_of g n c = judged_by (right? g n c)
