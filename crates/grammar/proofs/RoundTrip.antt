-- The bytes of rules within the limits are bytes, and say those rules and no others.
use mathlib.Core.Path.{◌≡◌, refl, ap, ◌∙◌}
use mathlib.Core.List.{List, [], ◌∷◌}
use Prim.Native.Nat.{ℕ, zero, suc, ◌≤◌, ◌<◌}
use native.Mathlib.Omega.{arith}
use native.Mathlib.Decide.{dec_lt}
use lib.ListN.{length}
use Rattle.number.specs.Number.{shortest, max_number}
use Rattle.number.specs.Forms.{Bytes}
use Rattle.number.proofs.ShortestForm.{shortest-one, shortest-two, shortest-three}
use Rattle.grammar.specs.Types.{Token, Nonterminal, End}
use Rattle.grammar.specs.Limits.{max_kinds, max_nonterminals}
use Rattle.base.specs.Lists.{AllOf}
use Rattle.grammar.specs.Decode.{Rules, mark, got, decode}
use Rattle.grammar.specs.Grammar.{size_all, Limited}
use Rattle.grammar.specs.Encode.{Part, highest_kind, nonterminal_count, production_count, symbol_count, one_symbol, number_of, bytes_of, parts_of, encode}
use Rattle.grammar.specs.Faults.{Permitted}
use Rattle.base.proofs.Lists.{all_append}
use Rattle.grammar.proofs.LimitLaws.{limited-in-limits}
use Rattle.grammar.proofs.EncodeLaws.{decoded-iff}

-- ---- the bytes of rules are bytes
abbrev Byte : ℕ → Type 0
Byte b = b < 256

bytes-of : (l : List ℕ) → AllOf Byte l → Bytes l
bytes-of [] h i = omega arith
bytes-of (b ∷ l) h zero = h.0
bytes-of (b ∷ l) h (suc i) = bytes-of l h.1 i

shortest-bytes : (v : ℕ) → v ≤ max_number → AllOf Byte (shortest v)
shortest-bytes v h = go (dec_lt v 128) (dec_lt v 16384)
  where
    go : Dec (v < 128) → Dec (v < 16384) → AllOf Byte (shortest v)
    go (yes l) k = rw (shortest-one v l) (omega arith, tt)
    go (no l) (yes k) = rw (shortest-two v (omega arith) k) (omega arith, (omega arith, tt))
    go (no l) (no k) = rw (shortest-three v (omega arith)) (omega arith, (omega arith, (omega arith, tt)))

module _ (t n : ℕ) (kinds-few : t ≤ max_kinds) (few : n ≤ max_nonterminals) where
  number-low : (x : Part) → Permitted t n x → number_of x ≤ max_number
  number-low (highest_kind v) h = let k = h.1 in omega (arith, k)
  number-low (nonterminal_count v) h = let k = h.1 in omega (arith, k)
  number-low (production_count v) h = let k = h.1 in omega (arith, k)
  number-low (symbol_count v) h = omega arith
  number-low (one_symbol (Token a)) h = let k = h.1 in omega (arith, k)
  number-low (one_symbol (Nonterminal a)) h = omega arith
  number-low (one_symbol End) h = absurd h

  parts-bytes : (l : List Part) → AllOf (Permitted t n) l → AllOf Byte (bytes_of l)
  unfolding bytes_of
  parts-bytes [] h = tt
  parts-bytes (x ∷ l) h = all_append Byte (shortest (number_of x)) (bytes_of l) (shortest-bytes (number_of x) (number-low x h.0)) (parts-bytes l h.1)

pub encode-bytes : (r : Rules) → Limited r → Bytes (encode r)
unfolding encode
encode-bytes r h =
    bytes-of (bytes_of (parts_of r)) (parts-bytes r.kinds (length r.productions) h.kinds-most h.few (parts_of r) ((limited-in-limits r).0 h).0)

-- ---- they say the rules, and no others
pub decode-encode : (r : Rules) → Limited r → decode (encode r) ≡ got r (mark (length (encode r)) (size_all r.productions))
decode-encode r h = (decoded-iff (encode r) (encode-bytes r h) r (mark (length (encode r)) (size_all r.productions))).1 (h, refl, refl)

pub encode_one : (r r' : Rules) → Limited r → Limited r' → encode r ≡ encode r' → r ≡ r'
encode_one r r' h h' e =
    let a = decode-encode r h in
    let b = ap decode e ∙ decode-encode r' h' in
    cc
