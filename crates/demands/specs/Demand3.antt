-- DEMAND 3: "For every list of quick readings by one grammar over one freshly begun cache, with any number of slots and whatever the notes, rows and working
-- spaces, refused readings included, each taking the cache as the last one left it and nobody else writing it meanwhile: each reading answers exactly the
-- number, place and count that the plain reading gives for that note with an equal row and as much working space, and leaves the same row, and in the cache
-- exactly what the learning rules give; and a reading leaves every word of the cache as found if an earlier one in the list was given the same note, enough
-- working space and a row of the same length."
use Rattle.std.specs.Prelude.{◌≡◌, List, [], ◌∷◌, ℕ, ◌≤◌, length}
use Rattle.grammar.specs.Decode.{Rules, Mark, got, decode}
use Rattle.grammar.specs.Grammar.{Grammar, compile}
use Rattle.derivation.specs.Space.{space_words}
use Rattle.derivation.specs.Plain.{Answer}
use Rattle.lookahead.specs.Configs.{In}
use Rattle.words.specs.Begin.{BeginDid}
use Rattle.adaptive.specs.Calls.{Call}
use Rattle.adaptive.specs.Teaching.{Teaches, TeachesAll}
use Rattle.plain.specs.Contract.{PlainDid}
use Rattle.quick.specs.Contract.{QuickDid}
use Rattle.audit.specs.Contract.{AuditDid}

-- ---- a list of readings
-- a quick call, and a plain call with the same note, an equal row and as much working space: what both were lent, and what each answered and left
pub record Both : Type 0 where
  pub lent : Call
  pub quickly : Answer
  pub cache : List ℕ
  pub plainly : Answer

-- both did what their contracts say, the quick one over this cache
pub record BothDid (bytes cache : List ℕ) (x : Both) : Type 0 where
  pub quick : QuickDid bytes x.lent.note x.lent.row x.lent.space cache x.quickly.number x.quickly.place x.quickly.count
      x.quickly.row x.cache
  pub plain : PlainDid bytes x.lent.note x.lent.row x.lent.space x.plainly.number x.plainly.place x.plainly.count
      x.plainly.row

-- a list of them, each quick call taking the cache as the last one left it
abbrev pub Session : List ℕ → List ℕ → List Both → Type 0
Session bytes cache [] = Unit {0}
Session bytes cache (x ∷ xs) = BothDid bytes cache x × Session bytes x.cache xs

-- the cache after the list
abbrev pub last_cache : List ℕ → List Both → List ℕ
last_cache cache [] = cache
last_cache cache (x ∷ xs) = last_cache x.cache xs

abbrev pub calls : List Both → List Call
calls [] = []
calls (x ∷ xs) = x.lent ∷ calls xs

-- ---- what is claimed of it
-- one of the earlier calls was given the same note, enough working space and a row of the same length
abbrev pub ReadBefore : Grammar → List Call → Call → Type 0
ReadBefore g earlier k =
    (j : Call) × In j earlier × (j.note ≡ k.note) × (space_words g.size (length j.note) ≤ j.space) × (length j.row ≡ length k.row)

-- one reading, over this cache and behind these earlier calls
pub record Same (g : Grammar) (cache : List ℕ) (earlier : List Call) (x : Both) : Type 0 where
  pub number : x.quickly.number ≡ x.plainly.number
  pub place : x.quickly.place ≡ x.plainly.place
  pub count : x.quickly.count ≡ x.plainly.count
  pub row : x.quickly.row ≡ x.plainly.row
  -- the cache holds exactly what the learning rules give: that, and they give nothing else
  pub learned : Teaches g cache x.lent x.cache
  pub only : (d : List ℕ) → Teaches g cache x.lent d → d ≡ x.cache
  -- which is nothing new for a note that was read before
  pub nothing-new : ReadBefore g earlier x.lent → x.cache ≡ cache

abbrev pub AllSame : Grammar → List ℕ → List Call → List Both → Type 0
AllSame g cache earlier [] = Unit {0}
AllSame g cache earlier (x ∷ xs) = Same g cache earlier x × AllSame g x.cache (x.lent ∷ earlier) xs

-- the whole list, and what the learning rules give from its first cache by the notes and the rows' lengths
pub record Throughout (g : Grammar) (cache : List ℕ) (xs : List Both) : Type 0 where
  pub each : AllSame g cache [] xs
  pub words : TeachesAll g cache (calls xs) (last_cache cache xs)

-- ---- DEMAND 3
pub record Demand3 : Type 0 where
  -- over words that got a yes of the audit, for that grammar and at that length, whoever wrote them
  pub audited : (bytes cache : List ℕ) (place : ℕ) → AuditDid bytes cache 0 place
      → (r : Rules) × (m : Mark) × (decode bytes ≡ got r m) × ((xs : List Both) → Session bytes cache xs → Throughout (compile r) cache xs)
  -- and so over a cache that an accepted beginning has left, which always gets one (`Delivered`)
  pub begun : (bytes cache₀ : List ℕ) (place : ℕ) (cache : List ℕ) → BeginDid bytes cache₀ 0 place cache
      → (r : Rules) × (m : Mark) × (decode bytes ≡ got r m) × ((xs : List Both) → Session bytes cache xs → Throughout (compile r) cache xs)
