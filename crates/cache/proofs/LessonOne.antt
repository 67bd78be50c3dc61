-- The lessons leave nothing open: one word and one row of words for each outcome, one forecast and one row of words for each prediction.
use Rattle.cache.specs.Predictor.{Forecast}
use mathlib.Core.Path.{◌≡◌, refl, ap}
use mathlib.Core.List.{List}
use Prim.Native.Nat.{ℕ, ◌≤◌}
use native.Mathlib.Omega.{arith}
use lib.ListN.{length, set}
use Rattle.grammar.specs.Limits.{max_productions}
use Rattle.grammar.specs.Grammar.{Grammar, alternatives}
use Rattle.lookahead.specs.Outcomes.{Outcome}
use Rattle.lookahead.specs.Rules.{Starts, StepsOver}
use Rattle.lookahead.proofs.GivenLaws.{learns-one}
use Rattle.words.specs.Layout.{state_word}
use Rattle.words.specs.Words.{kept_in}
use Rattle.cache.specs.Lessons.{Records, says-full, says-alternative, says-held, says-new, no_slot, Obtains, as-recorded, worked-out, ObtainsStart}
use Rattle.cache.specs.Lessons.{ObtainsStep, NamesAlternative, NamesSlot, Pursues, names-one, says_none, no-token, steps, Foretells}

-- the same is said, and the same words are left
pub record Alike {A : Type 0} (x y : A) (d e : List ℕ) : Type 0 where
  pub said : x ≡ y
  pub words : d ≡ e

-- ---- recording
pub records-one : {c : List ℕ} {a i : ℕ} {o : Outcome} {w v : ℕ} {d e : List ℕ} → Records c a i o w d → Records c a i o v e → Alike w v d e
records-one says-full says-full = record { said = refl; words = refl }
records-one says-alternative says-alternative = record { said = refl; words = refl }
records-one {c} {a} {i} (says-held s x l) (says-held s' x' l') =
    let h = l s' x' in
    let h' = l' s x in
    let z : s ≡ s' = omega arith in
    record { said = ap (λ (y : ℕ). state_word y) z; words = ap (λ (y : ℕ). set c i (state_word y)) z }
records-one (says-held s x l) (says-new n r) = absurd (n s x)
records-one (says-held s x l) (no_slot n r) = absurd (n s x)
records-one (says-new n r) (says-held s x l) = absurd (n s x)
records-one (says-new n r) (says-new n' r') = record { said = refl; words = refl }
records-one (says-new n r) (no_slot n' r') = absurd (omega arith)
records-one (no_slot n r) (says-held s x l) = absurd (n s x)
records-one (no_slot n r) (says-new n' r') = absurd (omega arith)
records-one (no_slot n r) (no_slot n' r') = record { said = refl; words = refl }

-- ---- asking
obtains-one : {c : List ℕ} {a i : ℕ} {Given : Outcome → Type 0} → ((o p : Outcome) → Given o → Given p → o ≡ p) → {w v : ℕ} {d e : List ℕ}
    → Obtains c a i Given w d → Obtains c a i Given v e → Alike w v d e
obtains-one one (as-recorded n) (as-recorded n') = record { said = refl; words = refl }
obtains-one one (as-recorded n) (worked-out z h x) = absurd (n z)
obtains-one one (worked-out z h x) (as-recorded n) = absurd (n z)
obtains-one one (worked-out {o = o} z h x) (worked-out {o = p} z' h' x') = let q : o ≡ p = one o p h h' in records-one (rw q at x) x'

module _ (g : Grammar) where
  pub start-one : {c : List ℕ} {a w v : ℕ} {d e : List ℕ} → ObtainsStart g c a w d → ObtainsStart g c a v e → Alike w v d e
  start-one {a = a} x y = obtains-one (λ o p h k. learns-one g (Starts g a) h k) x y

  pub step-one : {c : List ℕ} {a w v : ℕ} {d e : List ℕ} (s t : ℕ) → ObtainsStep g c a s t w d → ObtainsStep g c a s t v e → Alike w v d e
  step-one {c} s t x y = obtains-one (λ o p h k. learns-one g (StepsOver g t (kept_in c s)) h k) x y

  -- ---- predicting
  module _ (a : ℕ) (few : length (alternatives g a) ≤ max_productions) where
    -- no word names an alternative and a slot
    apart : {c : List ℕ} {w s : ℕ} → NamesAlternative g a w → NamesSlot c w s → ⊥
    apart n q = omega (arith, n.most, q.is)

    pub pursues-one : {ts : List ℕ} {w : ℕ} {c : List ℕ} {x y : Forecast} {d e : List ℕ} → Pursues g a ts w c x d → Pursues g a ts w c y e → Alike x y d e
    pursues-one (names-one n) (names-one n') = record { said = refl; words = refl }
    pursues-one (names-one n) (says_none m p) = absurd (m n)
    pursues-one (names-one n) (no-token q) = absurd (apart n q)
    pursues-one (names-one n) (steps q o x) = absurd (apart n q)
    pursues-one (says_none m p) (names-one n) = absurd (m n)
    pursues-one (says_none m p) (says_none m' p') = record { said = refl; words = refl }
    pursues-one (says_none m p) (no-token {s = s} q) = absurd (p s q)
    pursues-one (says_none m p) (steps {s = s} q o x) = absurd (p s q)
    pursues-one (no-token q) (names-one n) = absurd (apart n q)
    pursues-one (no-token {s = s} q) (says_none m p) = absurd (p s q)
    pursues-one (no-token q) (no-token q') = record { said = refl; words = refl }
    pursues-one (steps q o x) (names-one n) = absurd (apart n q)
    pursues-one (steps {s = s} q o x) (says_none m p) = absurd (p s q)
    pursues-one {ts} {w} {c} (steps {t = t} {s = s} q o x) (steps {s = s'} {v = v'} {d = d'} q' o' x') =
        let z : s' ≡ s = omega (arith, q.is, q'.is) in
        let same : ObtainsStep g c a s t v' d' = rw (← z) o' in
        let h = step-one s t o same in
        pursues-one x (rw (h.said, h.words) x')

    -- a prediction says one thing
    pub foretells-one : {ts c d e : List ℕ} {x y : Forecast} → Foretells g c a ts x d → Foretells g c a ts y e → Alike x y d e
    foretells-one f h = let z = start-one f.starts h.starts in pursues-one f.goes_on (rw (z.said, z.words) h.goes_on)
