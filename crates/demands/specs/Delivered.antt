-- CACHES DELIVERED WITH THE TERMINAL: "it says yes exactly if the layout is as documented, no decision holds two equal states, and every recorded start and
-- step is what the learning rules give. It writes nothing, and a cache that demand 3's readings left always gets a yes. Whoever wrote the words, after a yes
-- the terminal's quick readings give what plain ones do, and a repeated note teaches nothing more."
--
-- That an audit writes nothing needs no theorem: it is lent the cache to look at. What a yes is worth is demand 3 itself, whose list starts from words that got
-- one (`Demand3` and, with batches, `Trucks`). Here is what an audit answers, and who gets a yes.
use Rattle.std.specs.Prelude.{◌≡◌, ◌↔◌, List, [], ◌∷◌, ℕ, ◌≤◌, ◌<◌, length}
use Rattle.grammar.specs.Decode.{Rules, Mark, got, decode}
use Rattle.grammar.specs.Grammar.{compile}
use Rattle.soundness.specs.Check.{CheckDid}
use Rattle.words.specs.Layout.{min_words}
use Rattle.words.specs.Begin.{BegunFor, BeginDid}
use Rattle.cache.specs.Coherent.{Coherent}
use Rattle.audit.specs.Contract.{AuditDid}
use Rattle.demands.specs.Trucks.{Load, note, truck, Worked}

-- what an audit that was lent these bytes and these words answers: a number and a place
pub data Audits (bytes cache : List ℕ) : ℕ → ℕ → Type 0 where
  -- 1 to 7, as the check answers them
  refused : (number place : ℕ) → CheckDid bytes number place → ¬ (number ≡ 0) → Audits bytes cache number place
  -- then 12
  short : (place : ℕ) → CheckDid bytes 0 place → length cache < min_words → Audits bytes cache 12 0
  -- then 13
  foreign : (place : ℕ) → CheckDid bytes 0 place → min_words ≤ length cache → ¬ BegunFor bytes cache → Audits bytes cache 13 0
  -- then 19, a no
  incoherent : (r : Rules) (m : Mark) → decode bytes ≡ got r m → (place : ℕ) → CheckDid bytes 0 place → min_words ≤ length cache → BegunFor bytes cache
      → ¬ Coherent (compile r) bytes cache → Audits bytes cache 19 0
  -- else a yes
  coherent : (r : Rules) (m : Mark) → decode bytes ≡ got r m → (place : ℕ) → CheckDid bytes 0 place → Coherent (compile r) bytes cache
      → Audits bytes cache 0 0

-- the words that a list of calls, quick ones and batches, left
abbrev pub left_by : List ℕ → List Load → List ℕ
left_by cache [] = cache
left_by cache (note x ∷ ls) = left_by x.cache ls
left_by cache (truck t ∷ ls) = left_by t.cache ls

-- ---- CACHES DELIVERED WITH THE TERMINAL
pub record Delivered : Type 0 where
  -- an audit answers so exactly if the words are so
  pub exactly : (bytes cache : List ℕ) (number place : ℕ) → AuditDid bytes cache number place ↔ Audits bytes cache number place
  -- a cache that an accepted beginning has left gets a yes
  pub begun : (bytes cache₀ : List ℕ) (place : ℕ) (cache : List ℕ) → BeginDid bytes cache₀ 0 place cache → AuditDid bytes cache 0 0
  -- and calls, whatever they were lent and whether they were refused or not, turn no yes into a no
  pub stays : (bytes cache : List ℕ) (place : ℕ) → AuditDid bytes cache 0 place → (ls : List Load) → Worked bytes cache ls
      → AuditDid bytes (left_by cache ls) 0 0
