-- The quick reading over the cache's words: refusals 12 and 13, and a note that is read over coherent words, the cache being its predictor.
use mathlib.Core.Path.{◌≡◌, ap}
use mathlib.Core.Logic.{◌⊎◌, inl, inr}
use mathlib.Core.Bool.{false}
use mathlib.Core.Option.{some}
use mathlib.Core.List.Memᴰ
use mathlib.Core.List.{List, [], ◌∷◌}
use Prim.Native.Nat.{ℕ, suc, ◌≤◌, ◌<◌, suc-le-suc}
use native.Mathlib.Omega.{arith}
use lib.ListN.{length, get_elem?}
use borrow.Author.Tests.{lt-ltb, le-ltb}
use Rattle.base.proofs.Booleans.{T→true}
use Rattle.grammar.specs.Limits.{end_mark}
use Rattle.grammar.specs.Grammar.{Grammar}
use Rattle.grammar.specs.inside.Ordered.{Ordered}
use Rattle.derivation.specs.Runs.{marked}
use Rattle.derivation.specs.Machine.{Ended}
use Rattle.derivation.specs.inside.Choosers.{Later}
use Rattle.derivation.specs.Plain.{refuse, on_conclusion, read_note}
use Rattle.derivation.specs.Demand2.{Known}
use Rattle.derivation.proofs.MarkedCells.{length_marked, get-mark}
use Rattle.lookahead.specs.Configs.{In}
use Rattle.lookahead.specs.Rules.{Each}
use Rattle.lookahead.proofs.Agreeing.{Marked}
use Rattle.words.specs.Layout.{min_words}
use Rattle.words.specs.Begin.{begun?, BegunFor}
use Rattle.words.proofs.StandingLaws.{for-begun}
use Rattle.cache.specs.Predict.{predict}
use Rattle.cache.specs.Predictor.{Predictor}
use Rattle.cache.specs.Coherent.{Coherent, Extends}
use Rattle.cache.proofs.SuitLaws.{Suits}
use Rattle.cache.proofs.ExtendLaws.{extends-refl, extends-trans}
use Rattle.cache.proofs.PredictorLaws.{Stands as Asks, cache-predicts}
use Rattle.adaptive.specs.Quick.{reply, quick_note, reply_of, over_cache}
use Rattle.adaptive.proofs.NoteLaws.{note-answer, note-grows, note-again}

-- ---- 12, 13, and then the reading
module _ (s : List ℕ) (g : Grammar) (w row c : List ℕ) where
  pub over-12 : length c < min_words → over_cache s g w row c ≡ reply (refuse 12 0 row) c
  unfolding over_cache
  over-12 l = rw (over_cache, lt-ltb (length c) min_words l)

  pub over-13 : min_words ≤ length c → begun? s c ≡ false → over_cache s g w row c ≡ reply (refuse 13 0 row) c
  unfolding over_cache
  over-13 l e = rw (over_cache, le-ltb (length c) min_words l, e)

  pub over-begun : min_words ≤ length c → BegunFor s c → over_cache s g w row c ≡ reply_of g w row (quick_note g w (length row) c)
  unfolding over_cache
  over-begun l b = rw (over_cache, le-ltb (length c) min_words l, T→true (begun? s c) (for-begun s c b))

-- ---- a note of known tokens
pub tokens-of : (kinds : ℕ) (w : List ℕ) → Known kinds w → Each (λ (t : ℕ). t ≤ kinds) (marked w)
tokens-of kinds [] h t m = go (Memᴰ.cases_cons m)
  where
    go : (t ≡ end_mark) ⊎ In t [] → t ≤ kinds
    go (inl e) = omega arith
    go (inr n) = absurd (Memᴰ.not-nil n)
tokens-of kinds (x ∷ w) h t m = go (Memᴰ.cases_cons m) (tokens-of kinds w (λ i l. h (suc i) (suc-le-suc l)))
  where
    go : (t ≡ x) ⊎ In t (marked w) → Each (λ (t : ℕ). t ≤ kinds) (marked w) → t ≤ kinds
    go (inl e) rec = let q = h 0 (omega arith) in omega arith
    go (inr n) rec = rec t n

-- its last token is the end mark
ends-marked : (g : Grammar) (ordered : Ordered g) (w : List ℕ) → Marked g ordered (marked w)
ends-marked g ordered w i t e l =
    let z : i ≡ length w = omega (arith, length_marked w) in
    let e' : get_elem? (marked w) (length w) ≡ some t = rw z at e in
    let m = get-mark w in
    cc

-- ---- read over coherent words
module _ (g : Grammar) (bytes : List ℕ) (suits : Suits g bytes) (ordered : Ordered g) (w : List ℕ) (known : Known g.kinds w) where
  predictor : Predictor (Coherent g bytes) (Extends g) g (marked w) (Asks g (marked w)) (predict g)
  predictor = cache-predicts g bytes suits (marked w) (tokens-of g.kinds w known) ordered (ends-marked g ordered w)

  -- THE SAME ANSWER as the plain reading's
  pub quick-answer : (row c : List ℕ) → Coherent g bytes c → on_conclusion g w row (quick_note g w (length row) c).outcome ≡ read_note g w row
  unfolding quick_note
  quick-answer row c h = note-answer (Coherent g bytes) (Extends g) g ordered w (predict g) predictor row c h

  -- WORDS ONLY GROW
  pub quick-grows : (room : ℕ) (c : List ℕ) → Coherent g bytes c → Later (Coherent g bytes) (Extends g) c (quick_note g w room c).state
  unfolding quick_note
  quick-grows room c h =
      note-grows (Coherent g bytes) (Extends g) g ordered w (predict g) predictor (extends-refl g) (λ c d e x y. extends-trans g c d e x y) room c h

  -- READ AGAIN over words that have only grown since, it leaves them as found
  pub quick-again : (room : ℕ) (c d : List ℕ) → Coherent g bytes c → Coherent g bytes d → Extends g (quick_note g w room c).state d
      → (quick_note g w room d).state ≡ d
  unfolding quick_note
  quick-again room c d h j x =
      ap (λ (e : Ended (List ℕ)). e.state)
      (note-again (Coherent g bytes) (Extends g) g ordered w (predict g) predictor (extends-refl g) (λ c d e x y. extends-trans g c d e x y) room c d h j x)
