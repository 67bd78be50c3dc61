-- Words only grow: what was said stays said.
use mathlib.Core.Path.{◌≡◌, refl, sym, ap, ◌∙◌}
use mathlib.Core.Logic.{inl, inr}
use mathlib.Core.List.{List}
use Prim.Native.Nat.{ℕ, ◌+◌, ◌≤◌, ◌<◌}
use native.Mathlib.Omega.{arith}
use lib.Dec.{ltb}
use lib.ListN.{length, take, drop}
use Rattle.grammar.specs.Grammar.{Grammar}
use Rattle.lookahead.specs.Outcomes.{Outcome, full, alternative, state}
use Rattle.configurations.specs.Packing.{unpack_all}
use Rattle.words.specs.Layout.{min_words, fixed_words, length_at, bytes_at}
use Rattle.words.specs.Words.{held, kept_in}
use Rattle.words.specs.Begin.{pack_bytes, size_words, begun?, BegunFor}
use Rattle.words.specs.inside.Standings.{standing_by, standing_of}
use Rattle.cache.specs.Coherent.{Says, Extends}
use Rattle.words.proofs.WordLaws.{region-same}

module _ (g : Grammar) where
  pub extends-refl : (c : List ℕ) → Extends g c c
  extends-refl c = record {
    as_long = refl;
    same-fixed = λ i h. refl;
    more = omega arith;
    same-decision = λ s h. refl;
    same_kept = λ s h. refl;
    same_start = λ a h n. refl;
    same_step = λ s t h l n. refl;
  }

  pub extends-trans : (c c' c'' : List ℕ) → Extends g c c' → Extends g c' c'' → Extends g c c''
  extends-trans c c' c'' x y = record {
    as_long = y.as_long ∙ x.as_long;
    same-fixed = λ i h. y.same-fixed i h ∙ x.same-fixed i h;
    more = omega (arith, x.more, y.more);
    same-decision = λ s h. y.same-decision s (omega (arith, x.more)) ∙ x.same-decision s h;
    same_kept = λ s h. y.same_kept s (omega (arith, x.more)) ∙ x.same_kept s h;
    same_start = λ a h n. let e = x.same_start a h n in y.same_start a h (λ z. n (sym e ∙ z)) ∙ e;
    same_step = λ s t h l n. let e = x.same_step s t h l n in y.same_step s t (omega (arith, x.more)) l (λ z. n (sym e ∙ z)) ∙ e;
  }

  pub says-extends : {c c' : List ℕ} → Extends g c c' → (a w : ℕ) (o : Outcome) → Says c a w o → Says c' a w o
  says-extends x a w full y = y
  says-extends x a w (alternative b) y = y
  says-extends x a w (state ks) (s, e, h, d, k) = (s, e, omega (arith, x.more), x.same-decision s h ∙ d, x.same_kept s h ∙ k)

  -- the configurations of a state
  pub kept-extends : {c c' : List ℕ} → Extends g c c' → (s : ℕ) → s < held c → kept_in c' s ≡ kept_in c s
  unfolding kept_in
  kept-extends x s h = ap unpack_all (x.same_kept s h)

  module _ (bytes : List ℕ) {c c' : List ℕ} (few : bytes_at + length (pack_bytes bytes) ≤ fixed_words) (x : Extends g c c') where
    -- the words that say what the cache was begun for
    sizes-same : take 3 (drop length_at c') ≡ take 3 (drop length_at c)
    sizes-same = region-same c c' length_at 3 x.as_long (λ i h k. x.same-fixed i (inl (omega arith)))

    bytes_same : take (length (pack_bytes bytes)) (drop bytes_at c') ≡ take (length (pack_bytes bytes)) (drop bytes_at c)
    bytes_same = region-same c c' bytes_at (length (pack_bytes bytes)) x.as_long (λ i h k. x.same-fixed i (inr (h, omega arith)))

    begun-same : begun? bytes c' ≡ begun? bytes c
    unfolding begun?
    begun-same = rw (sizes-same, bytes_same, x.as_long)

    pub begun-extends : BegunFor bytes c → BegunFor bytes c'
    begun-extends b = record {
      sizes = sizes-same ∙ b.sizes ∙ ap (λ (l : ℕ). size_words (length bytes) l) (sym x.as_long);
      grammar = bytes_same ∙ b.grammar;
    }

    -- HOW A CACHE STANDS to a grammar no reading changes
    pub standing-extends : standing_of bytes c' ≡ standing_of bytes c
    unfolding standing_of
    standing-extends =
        ap (λ (l : ℕ). standing_by (ltb l min_words) (begun? bytes c')) x.as_long ∙ ap (standing_by (ltb (length c) min_words)) begun-same
