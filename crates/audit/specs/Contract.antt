-- What an audit promises.
use Rattle.std.specs.Prelude.{◌≡◌, List, ℕ, Result, ⊤}
use Rattle.number.specs.Refusals.{refusal_number, refusal_place}
use Rattle.number.specs.Answers.{told}
use Rattle.audit.specs.Auditing.{audited, audit_of}
use Rattle.words.specs.declared.standing.CacheRefusal.{CacheRefusal}
use Rattle.words.specs.declared.standing.CacheRefusal.TheVariants.{Short, Foreign}
use Rattle.audit.specs.declared.answer.AuditRefusal.{AuditRefusal}
use Rattle.audit.specs.declared.answer.AuditRefusal.TheVariants.{Grammar, ShortCache, ForeignCache, Incoherent}

-- a yes, or why not
abbrev pub Audit : Type 0
Audit = Result ⊤ AuditRefusal

-- 12 and 13, as an audit answers them
abbrev pub cache_refused : CacheRefusal → AuditRefusal
cache_refused Short = ShortCache
cache_refused Foreign = ForeignCache

-- the refusal's number
abbrev pub refused_number : AuditRefusal → ℕ
refused_number (Grammar r) = refusal_number r
refused_number ShortCache = 12
refused_number ForeignCache = 13
refused_number Incoherent = 19

-- its place, 0 where none is named
abbrev pub refused_place : AuditRefusal → ℕ
refused_place (Grammar r) = refusal_place r
refused_place ShortCache = 0
refused_place ForeignCache = 0
refused_place Incoherent = 0

-- 0 for a yes, else the refusal's number
abbrev pub audit_number : Audit → ℕ
audit_number a = told refused_number a

-- 0 where none is named
abbrev pub audit_place : Audit → ℕ
audit_place a = told refused_place a

-- THE CONTRACT OF `audit`: an audit that was lent these bytes and this cache answered this number and this place; it was lent the cache to look at, and so it
-- writes nothing
abbrev pub AuditDid : List ℕ → List ℕ → ℕ → ℕ → Type 0
AuditDid bytes cache number place = audited number place ≡ audit_of bytes cache
