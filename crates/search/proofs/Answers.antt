-- What the code's answers say: of a pair that was asked, of a token that was looked at, and of sets of positions that got members.
use mathlib.Core.Path.{◌≡◌, refl, sym, ◌∙◌}
use mathlib.Core.Logic.{◌↔◌, ◌⊎◌, inl, inr}
use mathlib.Core.Bool.{Bool, true, false, cond, ◌||◌}
use mathlib.Core.List.{List, [], ◌∷◌}
use Prim.Native.Nat.{ℕ, zero, suc, ◌/◌, ◌%◌, ◌≤◌, ◌<◌}
use native.Mathlib.Omega.{arith}
use native.Mathlib.Decide.{dec_lt}
use lib.Dec.{T, eqb, eqb→eq, eqb_refl}
use lib.ListN.{length, get_or}
use Rattle.base.specs.Bits.{word_bits}
use Rattle.base.proofs.Bits.{test-none}
use Rattle.base.proofs.Booleans.{clash, true→T, false→¬T, or-T, T-or-l, T-or-r}
use Rattle.base.proofs.Lists.{get-get_or}
use Rattle.grammar.specs.declared.Symbol.TheVariants.{Token}
use Rattle.grammar.specs.Limits.{end_mark}
use Rattle.grammar.specs.Grammar.{Grammar, facing, admits}
use Rattle.grammar.specs.inside.Tables.{grammar_in}
use Rattle.positions.specs.inside.Positions.{position_count, set_words, empty_set, member, with_of, union_of}
use Rattle.positions.proofs.SetLaws.{member-empty, member-with, member_union, length_union}
use Rattle.derivation.specs.Runs.{marked}
use Rattle.derivation.specs.inside.Ready.{Ready}
use Rattle.derivation.proofs.MarkedCells.{length_marked, get-note, token-inside}
use Rattle.derivation.proofs.ReadyLaws.{ready-ordered}
use Rattle.first_follow.specs.inside.Masks.{Masks}
use Rattle.first_follow.specs.inside.Words.{masks_in}
use Rattle.filtering.specs.inside.Beginnings.{token_at}
use Rattle.filtering.specs.inside.Filtered.{PairEnds}
use Rattle.filtering.specs.inside.Cover.{Asked}
use Rattle.filtering.specs.inside.Known as known
use Rattle.filtering.proofs.KnownLaws.{known-right}
use Rattle.filtering.proofs.StartLaws.{admits-at}
use Rattle.cells.specs.inside.Matches.{matches_at}
use Rattle.cells.proofs.MatchLaws.{matches-in, matches-out, matches-inside}
use Rattle.search.specs.inside.Searching.{Searching, state_of, set_of, reply_in, KnownIs}
use Rattle.search.specs.declared.replies.Reply.{Reply}
use Rattle.search.specs.declared.replies.Reply.TheVariants.{Unknown, Nowhere, Only, Several}

-- ---- a reply, by what it says
module _ {g : Grammar} {M : Masks} {w : List ℕ} {done : ℕ → ℕ → Bool} {a i : ℕ} where
  reply-unknown : known.Replied g M w done a i known.unknown → ¬ T (done a i)
  reply-unknown (known.Replied.asks d t) = d

  reply-nowhere : known.Replied g M w done a i known.nowhere → Asked M w done a i × ((m : ℕ) → ¬ PairEnds g M w a i m)
  reply-nowhere (known.Replied.none d h) = (d, h)

  reply-only : {n : ℕ} → known.Replied g M w done a i (known.only n) → Asked M w done a i × ((m : ℕ) → PairEnds g M w a i m ↔ (m ≡ n))
  reply-only (known.Replied.one d h) = (d, h)

  reply-among : {s : ℕ → Bool} → known.Replied g M w done a i (known.among s) → Asked M w done a i × ((m : ℕ) → PairEnds g M w a i m ↔ T (s m))
  reply-among (known.Replied.some d h) = (d, h)

-- a set is answered only of a pair that is worked out
known_among : (M : Masks) (w : List ℕ) (s : known.State) (a i : ℕ) (x : ℕ → Bool) → known.among x ≡ known.known M w s a i → T (s.done a i)
unfolding known.known
known_among M w s a i x = go (M.starts (token_at w i) a)
  where
    lone : (v : Bool) → ¬ (known.among x ≡ cond v (known.only i) known.nowhere)
    lone true e = clash (cc)
    lone false e = clash (cc)

    held : (v : Bool) → known.among x ≡ cond v (known.told (s.tag a i)) known.unknown → T v
    held true e = tt
    held false e = clash (cc)

    go : (v : Bool) → known.among x
        ≡ cond v (cond (s.done a i) (known.told (s.tag a i)) known.unknown) (cond (M.empty (token_at w i) a) (known.only i) known.nowhere) → T (s.done a i)
    go true e = held (s.done a i) e
    go false e = absurd (lone (M.empty (token_at w i) a) e)

-- ---- pair (a, i) was asked, and the code says r
module _ {t w ms ws : List ℕ} (s : Searching t w ms ws) (a i : ℕ) (l : i ≤ length w) where
  replied : (r : Reply) → KnownIs t w ms ws a i r
      → known.Replied (grammar_in t) (masks_in ms) (marked w) (state_of t w ws).done a i (reply_in (set_of t w ws a i) r)
  replied r k =
      rw k
      (known-right (ready-ordered t s.given.ready) s.given.closed (state_of t w ws) s.holds a i (omega (arith, length_marked w)))

  pub said-unknown : {r : Reply} → r ≡ Unknown → KnownIs t w ms ws a i r → ¬ T ((state_of t w ws).done a i)
  said-unknown e k = reply-unknown (replied Unknown (rw e at k))

  pub said-nowhere : {r : Reply} → r ≡ Nowhere → KnownIs t w ms ws a i r → Asked (masks_in ms) (marked w) (state_of t w ws).done a i
      × ((m : ℕ) → ¬ PairEnds (grammar_in t) (masks_in ms) (marked w) a i m)
  said-nowhere e k = reply-nowhere (replied Nowhere (rw e at k))

  pub said-only : {r : Reply} {n : ℕ} → r ≡ Only n → KnownIs t w ms ws a i r → Asked (masks_in ms) (marked w) (state_of t w ws).done a i
      × ((m : ℕ) → PairEnds (grammar_in t) (masks_in ms) (marked w) a i m ↔ (m ≡ n))
  said-only {r} {n} e k = reply-only (replied (Only n) (rw e at k))

  pub said-several : {r : Reply} → r ≡ Several → KnownIs t w ms ws a i r → Asked (masks_in ms) (marked w) (state_of t w ws).done a i
      × ((m : ℕ) → PairEnds (grammar_in t) (masks_in ms) (marked w) a i m ↔ T (member (set_of t w ws a i) m))
  said-several e k = reply-among (replied Several (rw e at k))

  pub several-done : {r : Reply} → r ≡ Several → KnownIs t w ms ws a i r → T ((state_of t w ws).done a i)
  several-done e k = known_among (masks_in ms) (marked w) (state_of t w ws) a i (member (set_of t w ws a i)) (rw e at k)

-- ---- the token at position i was looked at: it is one of the note that may stand where kind k is called for, or the end mark may not either
module _ {t : List ℕ} (h : Ready t) (w : List ℕ) (p k i : ℕ) (place : p < (grammar_in t).size) (e : facing (grammar_in t) p ≡ Token k) (l : i ≤ length w) where
  pub token-met : {b : Bool} → b ≡ matches_at (grammar_in t) w i k → b ≡ true
      → (i < length w) × T (admits (grammar_in t) k (token_at (marked w) i))
  token-met q x =
      let y = true→T (matches_at (grammar_in t) w i k) (sym q ∙ x) in
      let (u, d, a) = matches-out (grammar_in t) w i k y in
      let m = matches-inside (grammar_in t) w i k y in
      (m, admits-at (grammar_in t) (marked w) i k (get-note w i m ∙ d) a)

  pub token-other : {b : Bool} → b ≡ matches_at (grammar_in t) w i k → b ≡ false → ¬ T (admits (grammar_in t) k (token_at (marked w) i))
  token-other q x a =
      let d = get-get_or (marked w) i end_mark (omega (arith, length_marked w)) in
      let m = token-inside t h w p k i place e d a in
      false→¬T (matches_at (grammar_in t) w i k) (sym q ∙ x) (matches-in (grammar_in t) w i k (sym (get-note w i m) ∙ d) a)

-- ---- sets of five words
module _ (s : List ℕ) where
  word-past : (k : ℕ) → length s ≤ k → get_or s k 0 ≡ 0
  word-past = past s
    where
      past : (s : List ℕ) (k : ℕ) → length s ≤ k → get_or s k 0 ≡ 0
      past [] k l = refl
      past (x ∷ s) zero l = absurd (omega arith)
      past (x ∷ s) (suc k) l = past s k (omega arith)

  -- no position behind the last is a member
  member-past : (j : ℕ) → length s ≡ set_words → position_count ≤ j → ¬ T (member s j)
  unfolding member
  member-past j e l = false→¬T (member s j) (rw (word-past (j / word_bits) (omega arith)) (test-none (j % word_bits)))

pub none-empty : (s : List ℕ) → s ≡ empty_set → (m : ℕ) → ¬ T (member s m)
none-empty s e m = false→¬T (member s m) (rw e (member-empty m))

pub with-iff : (s : List ℕ) (k : ℕ) {r : List ℕ} → length s ≡ set_words → k < position_count → r ≡ with_of s k
    → (m : ℕ) → T (member r m) ↔ (T (member s m) ⊎ (m ≡ k))
with-iff s k {r} e l q m = (λ x. to (or-T (member s m) (eqb m k) (rw (q, is) at x)), λ x. rw (q, is) (from x))
  where
    is : member (with_of s k) m ≡ (member s m || eqb m k)
    is = member-with s k m (omega arith)

    to : T (member s m) ⊎ T (eqb m k) → T (member s m) ⊎ (m ≡ k)
    to (inl x) = inl x
    to (inr x) = inr (eqb→eq m k x)

    from : T (member s m) ⊎ (m ≡ k) → T (member s m || eqb m k)
    from (inl x) = T-or-l (member s m) (eqb m k) x
    from (inr z) = T-or-r (member s m) (eqb m k) (rw z (eqb_refl k))

pub union-iff : (s o : List ℕ) {r : List ℕ} → length s ≡ set_words → length o ≡ set_words → r ≡ union_of s o
    → (m : ℕ) → T (member r m) ↔ (T (member s m) ⊎ T (member o m))
union-iff s o {r} e d q m = go (dec_lt m position_count)
  where
    past : ¬ (m < position_count) → T (member s m) ⊎ T (member o m) → ⊥
    past n (inl x) = member-past s m e (omega arith) x
    past n (inr x) = member-past o m d (omega arith) x

    go : Dec (m < position_count) → T (member r m) ↔ (T (member s m) ⊎ T (member o m))
    go (yes l) = (λ x. or-T (member s m) (member o m) (rw (q, member_union s o m l) at x), λ x. rw (q, member_union s o m l) (from x))
      where
        from : T (member s m) ⊎ T (member o m) → T (member s m || member o m)
        from (inl x) = T-or-l (member s m) (member o m) x
        from (inr x) = T-or-r (member s m) (member o m) x
    go (no n) = (λ x. absurd (member-past (union_of s o) m (length_union s o) (omega arith) (rw q at x)), λ x. absurd (past n x))
