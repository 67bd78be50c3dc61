-- What the code of the quick reading answers and leaves, as the definitions have it.
use Rattle.std.specs.Prelude.{◌≡◌, List, ℕ, ◌≤◌, length, Ok, Err}
use Rattle.grammar.specs.Grammar.{Grammar}
use Rattle.gate.specs.Reading as gate
use Rattle.gate.specs.Reading.{Reading}
use Rattle.gate.specs.declared.reading.ReadingRefusal.{ReadingRefusal}
use Rattle.gate.specs.declared.reading.ReadingRefusal.TheVariants.{ShortCache, ForeignCache}
use Rattle.words.specs.Layout.{min_words}
use Rattle.words.specs.inside.Standings.{Standing}
use Rattle.words.specs.declared.standing.CacheRefusal.{CacheRefusal}
use Rattle.words.specs.declared.standing.CacheRefusal.TheVariants.{Short, Foreign}
use Rattle.derivation.specs.Plain.{refuse}
use Rattle.adaptive.specs.Quick.{Reply, reply, quick_note, reply_of}

-- a reading, the row and the cache that it left
abbrev pub replied : Reading → List ℕ → List ℕ → Reply
replied r row c = reply (gate.answered r row) c

-- the reading of a note by a sound grammar, in enough working space and over a begun cache
abbrev pub note_reply : Grammar → List ℕ → List ℕ → List ℕ → Reply
note_reply g w row c = reply_of g w row (quick_note g w (length row) c)

-- 12 and 13, as a reading answers them
abbrev pub cache_refused : CacheRefusal → ReadingRefusal
cache_refused Short = ShortCache
cache_refused Foreign = ForeignCache

-- a begun cache has the words of the shortest one
abbrev pub LongEnough : Standing → List ℕ → Type 0
LongEnough x c = x ≡ Ok tt → min_words ≤ length c

-- the same over a cache that stands so to the grammar
abbrev pub over_standing : Standing → Grammar → List ℕ → List ℕ → List ℕ → Reply
over_standing (Ok tt) g w row c = note_reply g w row c
over_standing (Err Short) g w row c = reply (refuse 12 0 row) c
over_standing (Err Foreign) g w row c = reply (refuse 13 0 row) c
