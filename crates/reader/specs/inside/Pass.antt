-- What the one pass over the bytes does, number by number: its answer and the tables it leaves. Internal: proofs/PassLaws says that this is `decode`.
use Rattle.std.specs.Prelude.{◌≡◌, ℕ, zero, suc, ◌+◌, ◌≤◌, List, cond, length, set, ltb}
use Rattle.reader.specs.inside.Types.{Cursor, Read, Value, Refused, OverLimit, Trailing, Token, End}
use Rattle.grammar.specs.Limits.{max_kinds, max_nonterminals, max_productions, max_length, max_places, end_place, end_mark, nobody}
use Rattle.number.specs.Fetching.{cursor}
use Rattle.number.specs.Number.{limited_at, symbol_at}
use Rattle.grammar.specs.Decode.{written}
use Rattle.grammar.specs.Grammar.{at}
use Rattle.grammar.specs.inside.Tables.{table_words, word_of, firsts_at, rules_at, kinds_at, nonterminals_at, size_at}

-- an answer, and the tables
pub record Out : Type 0 where
  pub answer : Read
  pub tables : List ℕ

abbrev pub out : Read → List ℕ → Out
out r t = record { answer = r; tables = t }

-- what a function answered, and the tables that it left, are o
abbrev pub Leaves : Read → List ℕ → Out → Type 0
Leaves r t o = out r t ≡ o

-- go on with a number, or pass its refusal on
unfoldable pub on_read : List ℕ → Read → (ℕ → Cursor → Out) → Out
on_read t (Value v c) k = k v c
on_read t (Refused r c) k = out (Refused r c) t

abbrev pub on_out : Out → (ℕ → Cursor → List ℕ → Out) → Out
on_out o k = on_read o.tables o.answer (λ v c. k v c o.tables)

-- what each part of the pass starts from: the two counts are within limits, so are the places taken so far, and the tables are long enough
pub record WithinLimits (kinds nonterminals places : ℕ) (t : List ℕ) : Type 0 where
  pub kinds-most : kinds ≤ max_kinds
  pub few : nonterminals ≤ max_nonterminals
  pub room : places ≤ max_places
  pub long : length t ≡ table_words

module _ (s : List ℕ) (kinds nonterminals : ℕ) where
  -- n symbols of a production of a, from byte b and place p on, and its end
  unfoldable pub symbols_of : ℕ → ℕ → ℕ → ℕ → List ℕ → Out
  symbols_of a zero b p t = out (Value (p + 1) (cursor b)) (set t p (word_of (at a End)))
  symbols_of a (suc n) b p t =
      on_read t (symbol_at s kinds nonterminals b) (λ v c. symbols_of a n c.at (p + 1) (set t p (word_of (at a (written v)))))

  -- n productions of a, from byte b on, the first of them at place p and the kth of all
  unfoldable pub productions_of : ℕ → ℕ → ℕ → ℕ → ℕ → List ℕ → Out
  productions_of a zero b p k t = out (Value p (cursor b)) t
  productions_of a (suc n) b p k t =
      on_read t (limited_at s 0 max_length b) (λ m c.
      cond (ltb max_places (p + m + 1)) (out (Refused (OverLimit b) c) t)
      (on_out (symbols_of a m c.at p (set t (firsts_at + k) p)) (λ q c' t'. productions_of a n c'.at q (k + 1) t')))

  -- n nonterminals from a on, from byte b on
  unfoldable pub nonterminals_of : ℕ → ℕ → ℕ → ℕ → ℕ → List ℕ → Out
  nonterminals_of a zero b p k t = out (Value p (cursor b)) (set t (rules_at + a) k)
  nonterminals_of a (suc n) b p k t =
      on_read t (limited_at s 1 max_productions b) (λ m c.
      on_out (productions_of a m c.at p k (set t (rules_at + a) k)) (λ q c' t'. nonterminals_of (a + 1) n c'.at q (k + m) t'))

-- the end place, and the words that say how much there is
unfoldable pub finished : ℕ → ℕ → ℕ → List ℕ → List ℕ
finished kinds nonterminals p t =
    set (set (set (set t end_place (word_of (at nobody (Token end_mark)))) kinds_at kinds) nonterminals_at nonterminals) size_at p

-- what follows the last nonterminal
unfoldable pub closing : List ℕ → ℕ → ℕ → ℕ → Cursor → List ℕ → Out
closing s kinds nonterminals p c t =
    cond (ltb c.at (length s)) (out (Refused (Trailing c.at) c) t) (out (Value p c) (finished kinds nonterminals p t))

-- the whole pass
unfoldable pub whole_pass : List ℕ → List ℕ → Out
whole_pass s t =
    on_read t (limited_at s 1 max_kinds 0) (λ kinds c.
    on_read t (limited_at s 1 max_nonterminals c.at) (λ nonterminals c'.
    on_out (nonterminals_of s kinds nonterminals 0 nonterminals c'.at 0 0 t) (λ p c'' t'. closing s kinds nonterminals p c'' t')))
