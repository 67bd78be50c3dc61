-- The readings of a production, of a nonterminal and of all of them: each reads the numbers that it should.
use mathlib.Core.Path.{◌≡◌, refl, ap, ◌∙◌}
use mathlib.Core.Bool.{Bool, true, false, cond}
use mathlib.Core.List.{List, [], ◌∷◌, flat_map}
use Prim.Native.Nat.{ℕ, zero, suc, ◌+◌, ◌≤◌}
use native.Mathlib.Omega.{arith}
use lib.Dec.{ltb}
use lib.ListN.{length, replicate, length-replicate}
use Rattle.number.specs.Number.{symbol_at}
use Rattle.number.specs.Forms.{Bytes}
use Rattle.grammar.specs.Types.{OverLimit, Read, Value, Refused, Symbol, Token}
use Rattle.grammar.specs.Limits.{max_kinds, max_nonterminals, max_productions, max_length, max_places}
use Rattle.grammar.specs.Decode.{Mark, mark, Parsed, got, refused, and_then, times, from_read, limited, written, symbol, read_production, nonterminal}
use Rattle.grammar.specs.Encode.{highest_kind, nonterminal_count, production_count, symbol_count, one_symbol, production_parts, nonterminal_parts}
use Rattle.grammar.proofs.PartLaws.{Reader}
use Rattle.grammar.proofs.ReaderLaws.{then-reader, same-reader, times-reader}
use Rattle.grammar.proofs.NumberReaders.{count-reader, length_at, length-reader, symbol-reader}

module _ (s : List ℕ) (bytes : Bytes s) (t n : ℕ) where
  -- ---- a production takes its places with its length
  abbrev Shifted : ℕ → Type 0
  Shifted k = (b p q : ℕ) → and_then (times k (symbol s t n) (mark b p)) (λ l m. got l (mark m.byte q)) ≡ times k (symbol s t n) (mark b q)

  shifted : (k : ℕ) → Shifted k
  unfolding times symbol and_then
  shifted zero b p q = refl
  shifted (suc k) b p q = go (symbol_at s t n b) (shifted k)
    where
      swap : (x : Symbol) (r : Parsed (List Symbol))
          → and_then (and_then r (λ l m. got (x ∷ l) m)) (λ l m. got l (mark m.byte q))
          ≡ and_then (and_then r (λ l m. got l (mark m.byte q))) (λ l m. got (x ∷ l) m)
      swap x (got l m) = refl
      swap x (refused f) = refl

      go : (x : Read) → Shifted k
          → and_then (and_then (and_then (from_read p x) (λ v m. got (written v) m)) (λ y m. and_then (times k (symbol s t n) m) (λ l m'. got (y ∷ l) m')))
          (λ l m. got l (mark m.byte q))
          ≡ and_then (and_then (from_read q x) (λ v m. got (written v) m)) (λ y m. and_then (times k (symbol s t n) m) (λ l m'. got (y ∷ l) m'))
      go (Value v c) ih =
          swap (written v) (times k (symbol s t n) (mark c.at p))
          ∙ ap (λ (r : Parsed (List Symbol)). and_then r (λ l m. got (written v ∷ l) m)) (ih c.at p q)
      go (Refused f c) ih = refl

  production-takes : (m : Mark) → read_production s t n m ≡ and_then (length_at s bytes t n m) (λ k m'. times k (symbol s t n) m')
  unfolding read_production length_at and_then
  production-takes m = go (limited s 0 max_length m)
    where
      by : (k : ℕ) (m' : Mark) (b : Bool)
          → cond b (refused (OverLimit m.byte)) (and_then (times k (symbol s t n) m') (λ l m''. got l (mark m''.byte (m.places + suc k))))
          ≡ and_then (cond b (refused (OverLimit m.byte)) (got k (mark m'.byte (m.places + suc k)))) (λ k m'. times k (symbol s t n) m')
      by k m' true = refl
      by k m' false = shifted k m'.byte m'.places (m.places + suc k)

      go : (r : Parsed ℕ)
          → and_then r (λ k m'. cond (ltb max_places (m.places + suc k)) (refused (OverLimit m.byte))
          (and_then (times k (symbol s t n) m') (λ l m''. got l (mark m''.byte (m.places + suc k)))))
          ≡ and_then (and_then r (λ k m'. cond (ltb max_places (m.places + suc k)) (refused (OverLimit m.byte)) (got k (mark m'.byte (m.places + suc k)))))
          (λ k m'. times k (symbol s t n) m')
      go (got k m') = by k m' (ltb max_places (m.places + suc k))
      go (refused f) = refl

  -- ---- the counts
  pub kinds-reader : Reader s t n (limited s 1 max_kinds) (λ v. Unit {0}) (λ v. highest_kind v ∷ [])
  kinds-reader =
      count-reader s bytes t n 1 max_kinds highest_kind (omega arith) (λ v. refl) (λ v. refl) (λ v. (λ h. h, λ h. h)) (λ at v. refl)

  pub nonterminals-reader : Reader s t n (limited s 1 max_nonterminals) (λ v. Unit {0}) (λ v. nonterminal_count v ∷ [])
  nonterminals-reader =
      count-reader s bytes t n 1 max_nonterminals nonterminal_count (omega arith) (λ v. refl) (λ v. refl) (λ v. (λ h. h, λ h. h)) (λ at v. refl)

  productions-reader : Reader s t n (limited s 1 max_productions) (λ v. Unit {0}) (λ v. production_count v ∷ [])
  productions-reader =
      count-reader s bytes t n 1 max_productions production_count (omega arith) (λ v. refl) (λ v. refl) (λ v. (λ h. h, λ h. h)) (λ at v. refl)

  -- ---- a production, a nonterminal, all nonterminals
  module _ (kinds-few : t ≤ max_kinds) (few : n ≤ max_nonterminals) where
    production-reader : Reader s t n (read_production s t n) (λ l. Unit {0}) production_parts
    unfolding production_parts
    production-reader =
        same-reader s t n (λ m. and_then (length_at s bytes t n m) (λ k m'. times k (symbol s t n) m')) (λ l. Unit {0}) production_parts
        (then-reader s t n (length_at s bytes t n) (λ v. Unit {0}) (λ v. symbol_count v ∷ []) (λ k m'. times k (symbol s t n) m') (λ k l. length l ≡ k)
        (λ k. flat_map (λ x. one_symbol x ∷ []))
        (λ l. Unit {0})
        production_parts (length-reader s bytes t n)
        (λ k u. times-reader s t n (symbol s t n) (λ x. one_symbol x ∷ []) (symbol-reader s bytes t n kinds-few few) (Token 1) k)
        (λ k l u e. (tt, rw e)) (λ l u. (length l, tt, refl)) (λ k u. (replicate k (Token 1), length-replicate k (Token 1))))
        (read_production s t n) (λ l. Unit {0}) production_parts production-takes (λ l u. u) (λ l u. u) (λ l u. refl)

    nonterminal-reader : Reader s t n (nonterminal s t n) (λ l. Unit {0}) nonterminal_parts
    unfolding nonterminal nonterminal_parts
    nonterminal-reader =
        then-reader s t n (limited s 1 max_productions) (λ v. Unit {0}) (λ v. production_count v ∷ []) (λ k m'. times k (read_production s t n) m')
        (λ k l. length l ≡ k) (λ k. flat_map production_parts)
        (λ l. Unit {0})
        nonterminal_parts productions-reader
        (λ k u. times-reader s t n (read_production s t n) production_parts production-reader [] k)
        (λ k l u e. (tt, rw e)) (λ l u. (length l, tt, refl)) (λ k u. (replicate k [], length-replicate k []))

    pub rules-reader : (k : ℕ) → Reader s t n (times k (nonterminal s t n)) (λ l. length l ≡ k) (flat_map nonterminal_parts)
    rules-reader k = times-reader s t n (nonterminal s t n) nonterminal_parts nonterminal-reader [] k
