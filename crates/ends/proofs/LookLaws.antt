-- One look along the productions of a nonterminal: the sets stay sound. Sets that are sound, and to which no look adds anything, are right.
use mathlib.Core.Path.{◌≡◌, ◌∙◌}
use mathlib.Core.Logic.{◌⊎◌, inl, inr, ⊎_elim}
use mathlib.Core.Bool.{false}
use mathlib.Core.Option.{some}
use mathlib.Core.List.{List}
use Prim.Native.Nat.{ℕ, suc, ◌+◌, ◌-◌, ◌*◌, ◌/◌, ◌≤◌, ◌<◌}
use native.Mathlib.Omega.{arith}
use native.Mathlib.Decide.{dec_lt}
use lib.Dec.{T}
use lib.ListN.{length, get_elem?, replicate, get_or-replicate}
use Rattle.base.proofs.Bits.{same?, test-none}
use Rattle.base.proofs.Lists.{any_of-T, T-any_of}
use Rattle.grammar.specs.Limits.{max_nonterminals}
use Rattle.grammar.specs.Grammar.{alternatives, first}
use Rattle.grammar.specs.inside.Tables.{grammar_in, nonterminals_in}
use Rattle.grammar.proofs.GrammarLaws.{first_pos, first_below}
use Rattle.grammar.proofs.WordLaws.{length-starts-in}
use Rattle.positions.specs.inside.Positions.{position_count, set_words, member}
use Rattle.positions.specs.inside.Words.{member_at, put_at}
use Rattle.positions.proofs.WordLaws.{put_same, put_other}
use Rattle.derivation.proofs.ReadyLaws.{ready-kept}
use Rattle.cells.specs.inside.Chart.{ChartedFrom}
use Rattle.ends.specs.inside.Ends.{end_words, end_has, ends_at, SoundEnds, RightEnds}
use Rattle.ends.specs.inside.Row.{Row, cells_in, leads_to, offers}
use Rattle.ends.specs.inside.Judged.{ClosedAt, Looked}
use Rattle.ends.proofs.LeadLaws.{Known, lead-sound, ends-in, ends-exact}
use Rattle.ends.proofs.InRange.{row-short}

-- ---- empty sets are sound
none_has : (a j : ℕ) → a < max_nonterminals → j < position_count → end_has (replicate end_words 0) a j ≡ false
unfolding end_has member_at
none_has a j h l = rw (get_or-replicate {A = ℕ} end_words (set_words * a + j / 32) 0 0 (omega arith)) (test-none _)

pub sound_none : (t w : List ℕ) (i : ℕ) → nonterminals_in t ≤ max_nonterminals → SoundEnds t w i (replicate end_words 0)
unfolding SoundEnds
sound_none t w i few a j h l x = absurd (rw (none_has a j (omega arith) l) at x)

module _ (t w : List ℕ) (i : ℕ) (ws : List ℕ) (row : Row t w i ws) where
  -- what is known at one position
  pub row-known : Known (grammar_in t) (nonterminals_in t) w (cells_in t ws) i
  unfolding ChartedFrom
  row-known =
      record {
        kept = ready-kept t row.ready;
        named = row.ready.fits.named;
        called = λ a b f e. rw (length-starts-in t) at (first_below (grammar_in t) a b e);
        short = row-short row;
        right = λ q m j h l k n. row.later q m j h l k n;
      }

  -- ---- the set of nonterminal a is put: it is what the productions of a lead to
  module _ (a : ℕ) (s ends : List ℕ) {after : List ℕ} (named : a < nonterminals_in t) (long : length ends ≡ end_words)
      (gathered : (j : ℕ) → j < position_count → member s j ≡ offers t w ws i ends a j) (put : after ≡ put_at ends (set_words * a) s) where
    own : (j : ℕ) → j < position_count → end_has after a j ≡ offers t w ws i ends a j
    unfolding end_has
    own j l = rw put (put_same ends (set_words * a) s j (omega (arith, row.ready.fits.few)) l) ∙ gathered j l

    others : (b j : ℕ) → (b ≡ a → ⊥) → j < position_count → end_has after b j ≡ end_has ends b j
    unfolding end_has
    others b j n l = rw put (put_other ends (set_words * a) (set_words * b) s j l (apart (dec_lt b a)))
      where
        apart : Dec (b < a) → (set_words * b + set_words ≤ set_words * a) ⊎ (set_words * a + set_words ≤ set_words * b)
        apart (yes h) = inl (omega arith)
        apart (no h) = inr (omega arith)

    pub looked : Looked t w ws i a ends after
    looked = record { others = others; own = own }

  -- ---- what the productions of a lead to is an end of a
  module _ (a : ℕ) (ends after : List ℕ) (look : Looked t w ws i a ends after) (sound : SoundEnds t w i ends) where
    offer-sound : (j : ℕ) → j < position_count → T (offers t w ws i ends a j) → T (ends_at (grammar_in t) w i a j)
    unfolding SoundEnds
    offer-sound j l x = go (any_of-T _ (alternatives (grammar_in t) a) x)
      where
        go : (n : ℕ) × (f : ℕ) × (get_elem? (alternatives (grammar_in t) a) n ≡ some f) × T (leads_to t w ws i ends j f)
            → T (ends_at (grammar_in t) w i a j)
        go (n, f, e, y) =
            let h = row-known.kept.starts a (suc n) f e in
            let (z, d) = lead-sound (grammar_in t) (nonterminals_in t) w (cells_in t ws) i row-known (end_has ends) sound row.here j l
            ((grammar_in t).size - f) f (omega arith) h y in
            ends-in (grammar_in t) w i a (suc n) e d

    pub looked-sound : SoundEnds t w i after
    unfolding SoundEnds
    looked-sound b j h l x = ⊎_elim here there (same? b a)
      where
        here : b ≡ a → T (ends_at (grammar_in t) w i b j)
        here e = rw e (offer-sound j l (rw (e, look.own j l) at x))

        there : (b ≡ a → ⊥) → T (ends_at (grammar_in t) w i b j)
        there n = sound b j h l (rw (look.others b j n l) at x)

  -- ---- sets that are sound and closed are right
  pub closed-right : (ends : List ℕ) → SoundEnds t w i ends → ((a : ℕ) → a < nonterminals_in t → ClosedAt t w ws i ends a) → RightEnds t w i ends
  unfolding RightEnds SoundEnds ClosedAt
  closed-right ends sound all = ends-exact (grammar_in t) (nonterminals_in t) w (cells_in t ws) i row-known (end_has ends) sound closed
    where
      closed : (a b f j : ℕ) → first (grammar_in t) a b ≡ some f → j < position_count → T (leads_to t w ws i ends j f) → T (end_has ends a j)
      closed a b f j d l x =
          let (n, q) = first_pos (grammar_in t) a b f d in
          all a (row-known.called a b f d) j l (T-any_of (leads_to t w ws i ends j) (alternatives (grammar_in t) a) n q x)
