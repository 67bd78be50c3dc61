-- What is known of a pair, as the code finds it: every token of a note is one that masks hold, a pair that may be asked has its words in the slice, and
-- each way out of the code gives the reply of the laws.
use mathlib.Core.Path.{◌≡◌, refl, sym, ap, ◌∙◌}
use mathlib.Core.Bool.{Bool, true, false, not}
use mathlib.Core.Option.{some}
use mathlib.Core.List.{List, [], ◌∷◌}
use Prim.Native.Nat.{ℕ, zero, suc, ◌≤◌, ◌<◌}
use native.Mathlib.Omega.{arith}
use native.Mathlib.Decide.{dec_lt}
use lib.ListN.{length, get_or, get_elem?, get_or-eq_default}
use borrow.Author.Tests.{lt-ltb, le-leb}
use Rattle.base.specs.Bits.{test_bit}
use Rattle.base.proofs.Booleans.{failed, passed}
use Rattle.base.proofs.Lists.{get_or-get}
use Rattle.grammar.specs.Limits.{max_kinds, max_nonterminals}
use Rattle.grammar.specs.Grammar.{Grammar, compile}
use Rattle.grammar.specs.inside.Tables.{grammar_in, nonterminals_in}
use Rattle.derivation.specs.Runs.{marked}
use Rattle.derivation.specs.Space.{max_tokens}
use Rattle.derivation.specs.inside.Ready.{Ready}
use Rattle.first_follow.specs.inside.Words.{mask_words, masks_in}
use Rattle.filtering.specs.inside.Beginnings.{token_at}
use Rattle.filtering.specs.inside.Known.{told, known}
use Rattle.search.specs.declared.words.Size.{Size}
use Rattle.search.specs.declared.words.Tag.{Tag}
use Rattle.search.specs.declared.words.Tag.TheVariants as tag
use Rattle.search.specs.declared.replies.Reply.TheVariants.{Unknown, Nowhere, Only, Several}
use Rattle.search.specs.inside.Words.{tag_at, search_words, tag_from, tag_of, done_in, tag_in}
use Rattle.search.specs.inside.Places.{Small, Placed}
use Rattle.search.specs.inside.Searching as asked
use Rattle.search.specs.inside.Searching.{set_of, state_of, Given, Searching, Sized, MayAsk, reply_in, KnownIs}

-- ---- tokens of a note that is given
kinds-few : (t : List ℕ) → Ready t → (grammar_in t).kinds ≤ max_kinds
unfolding compile
kinds-few t h = omega (arith, ap (λ (g : Grammar). g.kinds) h.says, h.limited.kinds-most)

token-marked : (w : List ℕ) (j : ℕ) → token_at (marked w) j ≡ get_or w j 0
token-marked [] zero = refl
token-marked [] (suc j) = refl
token-marked (x ∷ w) zero = refl
token-marked (x ∷ w) (suc j) = token-marked w j

pub token-few : (t w ms : List ℕ) → Given t w ms → (j : ℕ) → token_at (marked w) j ≤ max_kinds
token-few t w ms h j = go (dec_lt j (length w))
  where
    go : Dec (j < length w) → token_at (marked w) j ≤ max_kinds
    go (yes l) = omega (arith, token-marked w j, (h.tokens j l).1, kinds-few t h.ready)
    go (no l) = omega (arith, token-marked w j, get_or-eq_default w 0 {n = j} (omega arith))

-- ---- tags as replies
pub told_none : {t : Tag} → t ≡ tag.None → (s : List ℕ) → reply_in s Nowhere ≡ told (tag_of t s)
told_none e s = rw e

pub told-one : {t : Tag} {m b : ℕ} {more : Bool} → t ≡ tag.One m b more → (s : List ℕ) → reply_in s (Only m) ≡ told (tag_of t s)
told-one e s = rw e

pub told-several : {t : Tag} → t ≡ tag.Several → (s : List ℕ) → reply_in s Several ≡ told (tag_of t s)
told-several e s = rw e

-- ---- by the code's numbers
pub sizes-small : {t w ms : List ℕ} {z : Size} → Given t w ms → Sized t w z → Small z
sizes-small g s = record { names = rw s.names g.ready.fits.few; tokens = rw s.tokens g.short }

pub placed : {t w ms ws : List ℕ} {z : Size} {a i : ℕ} → Searching t w ms ws → Sized t w z → asked.Pair t w a i
    → Placed z (record { nonterminal = a; position = i }) ws
placed x s p = record {
  pair = record { small = sizes-small x.given s; nonterminal = rw s.names p.0; position = rw s.tokens p.1 };
  room = rw (s.names, s.tokens) x.room;
}

-- ---- a pair that may be asked
module _ {t w ms ws : List ℕ} {z : Size} {a i : ℕ} (h : MayAsk t w ms ws z a i) where
  -- by the code's numbers, as functions on words ask for it
  pub pair-asked : Placed z (record { nonterminal = a; position = i }) ws
  pair-asked = placed h.searching h.sized h.pair

  -- its token and nonterminal are such as masks hold
  pub masks-asked : {r : ℕ} → get_elem? (marked w) i ≡ some r → (r ≤ max_kinds) × (a < max_nonterminals) × (length ms ≡ mask_words)
  masks-asked {r} e =
      let g = h.searching.given in
      (omega (arith, get_or-get (marked w) i 0 e, token-few t w ms g i), omega (arith, h.pair.0, g.ready.fits.few), g.masked)

  done-is : done_in (nonterminals_in t) (length w) ws a i ≡ test_bit (get_or ws i 0) a
  unfolding done_in
  done-is = rw (lt-ltb a (nonterminals_in t) h.pair.0, le-leb i (length w) h.pair.1)

  tag_is : {x : Tag} → x ≡ tag_from (get_or ws (tag_at z.nonterminals z.n a i) 0) → tag_of x (set_of t w ws a i)
      ≡ tag_in (nonterminals_in t) (length w) ws a i
  unfolding tag_in
  tag_is e = rw (e, h.sized.names, h.sized.tokens)

  -- the ways out: r is the token there, and x tells whether a starts with it
  module _ {r : ℕ} (e : get_elem? (marked w) i ≡ some r) {x : Bool} (q : x ≡ (masks_in ms).starts r a) where
    pub known-empty : {y : Bool} → not x ≡ true → y ≡ (masks_in ms).empty r a → y ≡ true → KnownIs t w ms ws a i (Only i)
    unfolding known
    known-empty n p f = rw (get_or-get (marked w) i 0 e, failed q n, sym p ∙ f)

    pub known-none : {y : Bool} → not x ≡ true → y ≡ (masks_in ms).empty r a → y ≡ false → KnownIs t w ms ws a i Nowhere
    unfolding known
    known-none n p f = rw (get_or-get (marked w) i 0 e, failed q n, sym p ∙ f)

    pub known-undone : {y : Bool} → not x ≡ false → y ≡ test_bit (get_or ws i 0) a → not y ≡ true → KnownIs t w ms ws a i Unknown
    unfolding known
    known-undone n p f = rw (get_or-get (marked w) i 0 e, passed q n, done-is, failed p f)

    pub known-done : {y : Bool} {u : Tag} → not x ≡ false → y ≡ test_bit (get_or ws i 0) a → not y ≡ false
        → u ≡ tag_from (get_or ws (tag_at z.nonterminals z.n a i) 0) → told (tag_of u (set_of t w ws a i))
        ≡ known (masks_in ms) (marked w) (state_of t w ws) a i
    unfolding known
    known-done n p f d = rw (get_or-get (marked w) i 0 e, passed q n, done-is, passed p f, tag_is d)
