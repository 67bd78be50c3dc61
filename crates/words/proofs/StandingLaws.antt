-- How a cache stands to a grammar: 12, 13 or neither, by its length and by what it was begun for.
use mathlib.Core.Path.{◌≡◌, refl}
use mathlib.Core.Bool.{Bool, true, false, not}
use mathlib.Core.List.{List}
use Prim.Native.Nat.{ℕ, ◌≤◌, ◌<◌}
use lib.Dec.{T, ltb}
use lib.ListN.{length, take, drop}
use borrow.Author.Tests.{lt-ltb, le-ltb, ltb-true, ltb-false}
use Rattle.std.specs.Prelude.{Ok, Err}
use Rattle.base.proofs.Booleans.{clash, and_T, T_and, T→true, true→T}
use Rattle.lookahead.specs.Closing.{same_list}
use Rattle.lookahead.proofs.AddLaws.{same-list, list_same}
use Rattle.words.specs.declared.standing.CacheRefusal.TheVariants.{Short, Foreign}
use Rattle.words.specs.Layout.{min_words, length_at, bytes_at}
use Rattle.words.specs.Begin.{pack_bytes, size_words, begun?, BegunFor}
use Rattle.words.specs.inside.Standings.{Standing, standing_by, standing_of}

-- what 13 asks of the words, as a test and without one
module _ (bytes c : List ℕ) where
  abbrev sizes : List ℕ
  sizes = take 3 (drop length_at c)

  abbrev grammar : List ℕ
  grammar = take (length (pack_bytes bytes)) (drop bytes_at c)

  pub begun-for : T (begun? bytes c) → BegunFor bytes c
  unfolding begun?
  begun-for t =
      let (p, q) = and_T (same_list sizes (size_words (length bytes) (length c))) (same_list grammar (pack_bytes bytes)) t in
      record { sizes = same-list sizes (size_words (length bytes) (length c)) p; grammar = same-list grammar (pack_bytes bytes) q }

  pub for-begun : BegunFor bytes c → T (begun? bytes c)
  unfolding begun?
  for-begun b =
      rw (b.sizes, b.grammar)
      (T_and (same_list (size_words (length bytes) (length c)) (size_words (length bytes) (length c))) (same_list (pack_bytes bytes) (pack_bytes bytes))
      (list_same (size_words (length bytes) (length c))) (list_same (pack_bytes bytes)))

-- the ways a cache stands, and why
pub data Stands (bytes c : List ℕ) : Standing → Type 0 where
  short : length c < min_words → Stands bytes c (Err Short)
  foreign : min_words ≤ length c → begun? bytes c ≡ false → Stands bytes c (Err Foreign)
  begun : min_words ≤ length c → BegunFor bytes c → Stands bytes c (Ok tt)

module _ (bytes c : List ℕ) where
  pub stands : Stands bytes c (standing_of bytes c)
  unfolding standing_of
  stands = go (ltb (length c) min_words) (begun? bytes c) refl refl
    where
      go : (x y : Bool) → ltb (length c) min_words ≡ x → begun? bytes c ≡ y
          → Stands bytes c (standing_by x y)
      go true y p q = short (ltb-true (length c) min_words p)
      go false false p q = foreign (ltb-false (length c) min_words p) q
      go false true p q = begun (ltb-false (length c) min_words p) (begun-for bytes c (true→T (begun? bytes c) q))

  -- each way, told by its reason
  pub short-is : length c < min_words → Err Short ≡ standing_of bytes c
  unfolding standing_of
  short-is l = rw (lt-ltb (length c) min_words l)

  pub foreign-is : min_words ≤ length c → begun? bytes c ≡ false → Err Foreign ≡ standing_of bytes c
  unfolding standing_of
  foreign-is l e = rw (le-ltb (length c) min_words l, e)

  pub begun-is : min_words ≤ length c → T (begun? bytes c) → Ok tt ≡ standing_of bytes c
  unfolding standing_of
  begun-is l t = rw (le-ltb (length c) min_words l, T→true (begun? bytes c) t)

  -- by what `is_begun` answered
  module _ (l : min_words ≤ length c) {b : Bool} (e : b ≡ begun? bytes c) where
    pub other : not b ≡ true → Err Foreign ≡ standing_of bytes c
    other n = go b e n
      where
        go : (b : Bool) → b ≡ begun? bytes c → not b ≡ true → Err Foreign ≡ standing_of bytes c
        go true e n = clash (cc)
        go false e n = foreign-is l (cc)

    pub own : not b ≡ false → Ok tt ≡ standing_of bytes c
    own n = go b e n
      where
        go : (b : Bool) → b ≡ begun? bytes c → not b ≡ false → Ok tt ≡ standing_of bytes c
        go true e n = begun-is l (true→T (begun? bytes c) (cc))
        go false e n = clash (cc)
