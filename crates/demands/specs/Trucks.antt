-- A TRUCK'S NOTES IN ONE CALL: a batch is quick calls made singly, in order. So batches may stand in demand 3's list as the readings they are made of, and
-- over such a cache a batch answers what plain calls answer.
use Rattle.std.specs.Prelude.{◌≡◌, ◌↔◌, List, [], ◌∷◌, ◌++◌, ℕ}
use Rattle.grammar.specs.Decode.{Rules, Mark, got, decode}
use Rattle.grammar.specs.Grammar.{Grammar, compile}
use Rattle.soundness.specs.Check.{CheckDid}
use Rattle.derivation.specs.Plain.{Answer}
use Rattle.words.specs.Begin.{BeginDid}
use Rattle.adaptive.specs.Quick.{Reply}
use Rattle.adaptive.specs.Calls.{Call}
use Rattle.plain.specs.Contract.{PlainDid}
use Rattle.quick.specs.Contract.{QuickDid}
use Rattle.batch.specs.Batches.{calls_of, answers_of, rows_of, Batched, batched, read_of, Fits}
use Rattle.batch.specs.Contract.{BatchDid}
use Rattle.audit.specs.Contract.{AuditDid}
use Rattle.demands.specs.Demand3.{Both, BothDid, Session, calls, last_cache, Throughout}

-- ---- a batch
-- quick calls made singly in this order, each over the words that the one before it left: all that is known of one is its contract
pub data Singly (bytes : List ℕ) : List ℕ → List Call → List Reply → Type 0 where
  none : {c : List ℕ} → Singly bytes c [] []
  next : {c : List ℕ} {k : Call} {ks : List Call} {x : Reply} {xs : List Reply}
      → QuickDid bytes k.note k.row k.space c x.answer.number x.answer.place x.answer.count x.answer.row x.words
      → Singly bytes x.words ks xs → Singly bytes c (k ∷ ks) (x ∷ xs)

-- what a batch that was lent this answers and leaves
pub data Batches (bytes tokens lengths answers row : List ℕ) (space : ℕ) (cache : List ℕ) : Batched → Type 0 where
  -- 1 to 7 refuse the whole call and alter nothing
  refused : (number place : ℕ) → CheckDid bytes number place → ¬ (number ≡ 0)
      → Batches bytes tokens lengths answers row space cache (batched number place answers row cache)
  -- then 18, which alters nothing
  bad : (place : ℕ) → CheckDid bytes 0 place → ((part : ℕ) → ¬ Fits tokens lengths answers row part)
      → Batches bytes tokens lengths answers row space cache (batched 18 0 answers row cache)
  -- else answers, row and cache are those of quick calls made singly, whether they are refused or not
  read : (place : ℕ) → CheckDid bytes 0 place → (part : ℕ) → Fits tokens lengths answers row part → (xs : List Reply)
      → Singly bytes cache (calls_of space part lengths tokens row) xs
      → Batches bytes tokens lengths answers row space cache (read_of cache xs)

-- ---- lists in which batches stand
-- plain calls with these notes, equal rows and as much working space each
pub data AllPlainly (bytes : List ℕ) : List Call → List Answer → Type 0 where
  none : AllPlainly bytes [] []
  next : {k : Call} {ks : List Call} {a : Answer} {rest : List Answer}
      → PlainDid bytes k.note k.row k.space a.number a.place a.count a.row → AllPlainly bytes ks rest
      → AllPlainly bytes (k ∷ ks) (a ∷ rest)

-- a batch: what it was lent, and what it answered and left; and if its notes were read, the entries for each of them and what plain calls beside answered
pub record Truck : Type 0 where
  pub tokens : List ℕ
  pub lengths : List ℕ
  pub answers : List ℕ
  pub row : List ℕ
  pub space : ℕ
  pub number : ℕ
  pub place : ℕ
  pub answered : List ℕ
  pub rows : List ℕ
  pub cache : List ℕ
  pub part : ℕ
  pub plainly : List Answer

-- the calls that it is made of
abbrev pub unloaded : Truck → List Call
unloaded t = calls_of t.space t.part t.lengths t.tokens t.row

-- its notes were read
abbrev pub WasRead : Truck → Type 0
WasRead t = t.number ≡ 0

-- batch and plain calls did what their contracts say, the batch over this cache
pub record TruckDid (bytes cache : List ℕ) (t : Truck) : Type 0 where
  pub batch : BatchDid bytes t.tokens t.lengths t.answers t.row t.space cache t.number t.place t.answered t.rows t.cache
  pub fits : WasRead t → Fits t.tokens t.lengths t.answers t.row t.part
  pub plain : WasRead t → AllPlainly bytes (unloaded t) t.plainly

-- one call of a list: a quick one, or a batch, refused or not
pub data Load : Type 0 where
  note : Both → Load
  truck : Truck → Load

-- each did what its contract says, over the cache as the one before it left it
abbrev pub Worked : List ℕ → List ℕ → List Load → Type 0
Worked bytes cache [] = Unit {0}
Worked bytes cache (note x ∷ ls) = BothDid bytes cache x × Worked bytes x.cache ls
Worked bytes cache (truck t ∷ ls) = TruckDid bytes cache t × Worked bytes t.cache ls

-- what quick and plain calls answered
abbrev pub quick_answers : List Both → List Answer
quick_answers [] = []
quick_answers (x ∷ xs) = x.quickly ∷ quick_answers xs

abbrev pub plain_answers : List Both → List Answer
plain_answers [] = []
plain_answers (x ∷ xs) = x.plainly ∷ plain_answers xs

-- a batch over this cache is these readings
pub record IsMadeOf (cache : List ℕ) (t : Truck) (xs : List Both) : Type 0 where
  pub lent : calls xs ≡ unloaded t
  pub answers : t.answered ≡ answers_of (quick_answers xs)
  pub rows : t.rows ≡ rows_of (quick_answers xs)
  pub words : t.cache ≡ last_cache cache xs
  pub plainly : t.plainly ≡ plain_answers xs

-- the readings that a list is made of, over this cache
pub data MadeOf : List ℕ → List Load → List Both → Type 0 where
  none : {cache : List ℕ} → MadeOf cache [] []
  one : {cache : List ℕ} {x : Both} {ls : List Load} {xs : List Both} → MadeOf x.cache ls xs → MadeOf cache (note x ∷ ls) (x ∷ xs)
  many : {cache : List ℕ} {t : Truck} {ys : List Both} {ls : List Load} {xs : List Both} → WasRead t → IsMadeOf cache t ys → MadeOf t.cache ls xs
      → MadeOf cache (truck t ∷ ls) (ys ++ xs)
  -- a batch that was refused as a whole is no reading, and leaves the cache
  no_one : {cache : List ℕ} {t : Truck} {ls : List Load} {xs : List Both} → ¬ WasRead t → t.cache ≡ cache → MadeOf t.cache ls xs
      → MadeOf cache (truck t ∷ ls) xs

-- demand 3 of a list in which batches stand: of the readings that it is made of, over this cache
abbrev pub ThroughoutLoads : List ℕ → Grammar → List ℕ → List Load → Type 0
ThroughoutLoads bytes g cache ls = (xs : List Both) × MadeOf cache ls xs × Session bytes cache xs × Throughout g cache xs

-- a batch answers what plain calls answer
pub record AsPlain (t : Truck) : Type 0 where
  pub answers : t.answered ≡ answers_of t.plainly
  pub rows : t.rows ≡ rows_of t.plainly

-- ---- A TRUCK'S NOTES IN ONE CALL
pub record Trucks : Type 0 where
  -- a batch that was lent this answers so and leaves answers, row and cache so exactly if single calls do
  pub singly : (bytes tokens lengths answers row : List ℕ) (space : ℕ) (cache : List ℕ) (number place : ℕ) (answers' row' cache' : List ℕ)
      → BatchDid bytes tokens lengths answers row space cache number place answers' row' cache'
      ↔ Batches bytes tokens lengths answers row space cache (batched number place answers' row' cache')
  -- demand 3, batches in the list, over words that got a yes of the audit
  pub audited : (bytes cache : List ℕ) (place : ℕ) → AuditDid bytes cache 0 place
      → (r : Rules) × (m : Mark) × (decode bytes ≡ got r m) × ((ls : List Load) → Worked bytes cache ls → ThroughoutLoads bytes (compile r) cache ls)
  -- and so over a cache that an accepted beginning has left
  pub begun : (bytes cache₀ : List ℕ) (place : ℕ) (cache : List ℕ) → BeginDid bytes cache₀ 0 place cache
      → (r : Rules) × (m : Mark) × (decode bytes ≡ got r m) × ((ls : List Load) → Worked bytes cache ls → ThroughoutLoads bytes (compile r) cache ls)
  -- so a batch over words that got a yes answers as plain calls do
  pub as_plain : (bytes cache : List ℕ) (place : ℕ) → AuditDid bytes cache 0 place → (t : Truck) → TruckDid bytes cache t → WasRead t → AsPlain t
