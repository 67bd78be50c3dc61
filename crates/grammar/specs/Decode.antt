-- What grammar bytes say: the rules, or the first refusal of 1 to 5 in the order of the bytes.
use Prim.Native.Nat.{ℕ, zero, suc, ◌+◌, ◌/◌, ◌%◌, ◌≤◌, ◌<◌}
use Rattle.std.specs.Prelude.{List, [], ◌∷◌, length, ltb, eqb}
use Rattle.std.proofs.Math.Bool.{cond}
use Rattle.base.specs.Lists.{AllOf}
use Rattle.grammar.specs.Types.{Refusal, OverLimit, Trailing, Read, Value, Refused, Symbol, Token, Nonterminal, End}
use Rattle.grammar.specs.Limits.{max_kinds, max_nonterminals, max_productions, max_length, max_places}
use Rattle.number.specs.Number.{limited_at, symbol_at}

-- a grammar as written: its highest token kind, and for each nonterminal its productions
pub record Rules : Type 0 where
  pub kinds : ℕ
  pub productions : List (List (List Symbol))

-- a symbol of a grammar with t kinds and n nonterminals
abbrev pub Legal : ℕ → ℕ → Symbol → Type 0
Legal t n (Token k) = (1 ≤ k) × (k ≤ t)
Legal t n (Nonterminal a) = a < n
Legal t n End = ⊥

-- a production, and the productions of a nonterminal, of such a grammar
abbrev pub Production : ℕ → ℕ → List Symbol → Type 0
Production t n β = (length β ≤ max_length) × AllOf (Legal t n) β

abbrev pub Alternatives : ℕ → ℕ → List (List Symbol) → Type 0
Alternatives t n l = (1 ≤ length l) × (length l ≤ max_productions) × AllOf (Production t n) l

-- how far reading has come: the next byte, and the places of the productions read so far
pub record Mark : Type 0 where
  pub byte : ℕ
  pub places : ℕ

abbrev pub mark : ℕ → ℕ → Mark
mark b p = record { byte = b; places = p }

-- what reading gives: something, and how far it came; or a refusal
pub data Parsed (A : Type 0) : Type 0 where
  got : A → Mark → Parsed A
  refused : Refusal → Parsed A

-- one reading after another; a refusal ends both
unfoldable pub and_then : {A B : Type 0} → Parsed A → (A → Mark → Parsed B) → Parsed B
and_then (got x m) k = k x m
and_then (refused r) k = refused r

-- n readings, one after another
unfoldable pub times : {A : Type 0} → ℕ → (Mark → Parsed A) → Mark → Parsed (List A)
unfolding and_then
times zero f m = got [] m
times (suc n) f m = and_then (f m) (λ x m'. and_then (times n f m') (λ l m''. got (x ∷ l) m''))

-- a number that was read, with so many places before it
abbrev pub from_read : ℕ → Read → Parsed ℕ
from_read p (Value v c) = got v (mark c.at p)
from_read p (Refused r c) = refused r

-- a number from lo to hi
unfoldable pub limited : List ℕ → ℕ → ℕ → Mark → Parsed ℕ
unfolding limited_at
limited s lo hi m = from_read m.places (limited_at s lo hi m.byte)

-- the symbol that is written as v: token t as 2t, nonterminal a as 2a+1
unfoldable pub written : ℕ → Symbol
written v = cond (eqb (v % 2) 0) (Token (v / 2)) (Nonterminal (v / 2))

module _ (s : List ℕ) (t n : ℕ) where
  -- a symbol
  unfoldable pub symbol : Mark → Parsed Symbol
  unfolding and_then symbol_at written
  symbol m = and_then (from_read m.places (symbol_at s t n m.byte)) (λ v m'. got (written v) m')

  -- a production: its length, and so many symbols; it has one place more than symbols
  unfoldable pub read_production : Mark → Parsed (List Symbol)
  unfolding and_then limited times symbol
  read_production m =
      and_then (limited s 0 max_length m) (λ k m'.
      cond (ltb max_places (m.places + suc k)) (refused (OverLimit m.byte))
      (and_then (times k symbol m') (λ l m''. got l (mark m''.byte (m.places + suc k)))))

  -- a nonterminal: the number of its productions, and so many productions
  unfoldable pub nonterminal : Mark → Parsed (List (List Symbol))
  unfolding and_then limited times read_production
  nonterminal m = and_then (limited s 1 max_productions m) (λ k m'. times k read_production m')

-- nothing follows what was read, or refusal 5
unfoldable pub ending : {A : Type 0} → List ℕ → A → Mark → Parsed A
ending s x m = cond (ltb m.byte (length s)) (refused (Trailing m.byte)) (got x m)

-- the whole grammar: the highest kind, the number of nonterminals, and each of them
unfoldable pub decode : List ℕ → Parsed Rules
unfolding and_then limited times nonterminal ending
decode s =
    and_then (limited s 1 max_kinds (mark 0 0)) (λ t m.
    and_then (limited s 1 max_nonterminals m) (λ n m'.
    and_then (times n (nonterminal s t n) m') (λ l m''.
    ending s (record { kinds = t; productions = l }) m'')))
