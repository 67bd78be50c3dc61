-- Records, as the code judges them.
use mathlib.Core.Path.{◌≡◌, refl, sym, ap, ◌∙◌}
use mathlib.Core.Bool.{Bool, true, false, not}
use mathlib.Core.List.{List}
use Prim.Native.Nat.{ℕ, suc, ◌+◌, ◌-◌, ◌*◌, ◌≤◌, ◌<◌}
use native.Mathlib.Omega.{arith}
use native.Mathlib.Decide.{dec_lt}
use lib.Dec.{eqb, leb}
use lib.ListN.{length, take, drop}
use borrow.Author.Tests.{eq-eqb, ne_eqb, le-leb, lt-leb, lt-ltb, le-ltb, leb-true}
use Rattle.base.specs.Search.{all_from}
use Rattle.base.proofs.Booleans.{clash, and_T, T→true, true→T, failed, passed, stop, on}
use Rattle.grammar.specs.Limits.{max_nonterminals}
use Rattle.grammar.specs.Grammar.{Grammar}
use Rattle.grammar.specs.inside.Tables.{grammar_in, nonterminals_in}
use Rattle.lookahead.specs.Outcomes.{start_outcome, step_outcome}
use Rattle.configurations.specs.Packing.{config_words}
use Rattle.learning.specs.declared.rules.Outcome as told
use Rattle.learning.specs.declared.rules.Outcome.TheVariants.{Full, Alternative, State}
use Rattle.learning.specs.inside.Told.{Tells}
use Rattle.words.specs.Layout.{slots, full_word, state_word}
use Rattle.words.specs.Words.{held, start_of, step_of, decision, kept_in}
use Rattle.cache.specs.inside.ByWords.{holds_words}
use Rattle.auditing.specs.Coherence.{decides?, laid_out?, single?, names?, says?, start?, step?, steps?, recorded?, right?}
use Rattle.auditing.specs.inside.Relied.{Judges}
use Rattle.auditing.proofs.LayoutSteps.{decides-nobody}

-- ---- a word that names a slot
module _ (c : List ℕ) (a w : ℕ) (ws : List ℕ) where
  pub no-state : w ≤ full_word → false ≡ names? c a w ws
  unfolding names?
  no-state l = stop _ (lt-leb (state_word 0) w (omega arith))

  module _ (s : ℕ) (e : w ≡ state_word s) {h : ℕ} (f : h ≡ held c) where
    its-slot : w - state_word 0 ≡ s
    its-slot = omega arith

    pub unheld : h ≤ s → false ≡ names? c a w ws
    unfolding names?
    unheld k = on (le-leb (state_word 0) w (omega arith)) (stop _ (le-ltb (w - state_word 0) (held c) (omega arith)))

    pub held-decides : s < h → {r : Bool} → r ≡ holds_words c a ws s → r ≡ names? c a w ws
    unfolding names? holds_words
    held-decides k q =
        on (le-leb (state_word 0) w (omega arith)) (on (lt-ltb (w - state_word 0) (held c) (omega arith)) (rw its-slot q))

-- ---- a word that says an outcome
module _ (x : told.Outcome) (ms c : List ℕ) (a w : ℕ) {r : Bool} where
  pub says-full : x ≡ Full → r ≡ eqb w full_word → Judges x ms c a w r
  unfolding Tells says?
  says-full e h o t = let q = rw e at t in rw q h

  pub says-alternative : {b : ℕ} → x ≡ Alternative b → r ≡ eqb w b → Judges x ms c a w r
  unfolding Tells says?
  says-alternative e h o t = let q = rw e at t in rw q h

  pub says-state : {f n : ℕ} → x ≡ State f n → r ≡ names? c a w (take (config_words * (f + n) - config_words * f) (drop (config_words * f) ms))
      → Judges x ms c a w r
  unfolding Tells says?
  says-state {f} {n} e h o t =
      let q = rw e at t in
      let z : config_words * (f + n) - config_words * f ≡ config_words * n = omega arith in
      rw q.is (rw z at h ∙ ap (names? c a w) q.words)

-- ---- a start
pub decides-named : (t : List ℕ) (a : ℕ) {r : Bool} → r ≡ decides? (grammar_in t) a → not r ≡ false → a < nonterminals_in t
decides-named t a e n = go (dec_lt a (nonterminals_in t))
  where
    go : Dec (a < nonterminals_in t) → a < nonterminals_in t
    go (yes l) = l
    go (no l) = clash (cc (decides-nobody t a refl (omega arith), passed e n))

module _ (g : Grammar) (c : List ℕ) (a : ℕ) {w : ℕ} (e : w ≡ start_of c a) where
  pub no_start : w ≡ 0 → true ≡ start? g c a
  unfolding start?
  no_start z = rw (eq-eqb (start_of c a) 0 (sym e ∙ z)) refl

  module _ (n : w ≡ 0 → ⊥) {r : Bool} (d : r ≡ decides? g a) where
    some : eqb (start_of c a) 0 ≡ false
    some = ne_eqb (start_of c a) 0 (λ z. n (e ∙ z))

    pub start-of-none : not r ≡ true → false ≡ start? g c a
    unfolding start?
    start-of-none h = rw some (stop _ (failed d h))

    pub start-judged : not r ≡ false → (x : told.Outcome) (ms : List ℕ) → Tells x ms (start_outcome g a) → {b : Bool} → Judges x ms c a w b → b ≡ start? g c a
    unfolding start?
    start-judged h x ms t {b} j =
        let y : b ≡ says? c a (start_of c a) (start_outcome g a) = j (start_outcome g a) t ∙ ap (λ (v : ℕ). says? c a v (start_outcome g a)) e in
        rw some (on (passed d h) y)

-- ---- a step
module _ (g : Grammar) (c : List ℕ) (s t : ℕ) {w : ℕ} (e : w ≡ step_of c s t) where
  pub no_step : w ≡ 0 → true ≡ step? g c s t
  unfolding step?
  no_step z = rw (eq-eqb (step_of c s t) 0 (sym e ∙ z)) refl

  pub step-judged : (w ≡ 0 → ⊥) → (x : told.Outcome) (ms : List ℕ) → Tells x ms (step_outcome g t (kept_in c s)) → {a : ℕ} → a ≡ decision c s
      → {b : Bool} → Judges x ms c a w b → b ≡ step? g c s t
  unfolding step?
  step-judged n x ms h d {b} j =
      let o = step_outcome g t (kept_in c s) in
      let y : b ≡ says? c (decision c s) (step_of c s t) o = j o h ∙ (λ i. says? c (d i) (e i) o) in
      rw (ne_eqb (step_of c s t) 0 (λ z. n (e ∙ z))) y

-- ---- all of them
pub steps-begin : (g : Grammar) (c : List ℕ) (s : ℕ) {k : ℕ} → k ≡ g.kinds → all_from (step? g c s) 0 (k + 1 - 0) ≡ steps? g c s
unfolding steps?
steps-begin g c s {k} e = let z : k + 1 - 0 ≡ suc g.kinds = omega arith in ap (all_from (step? g c s) 0) z

pub all-steps-begin : (g : Grammar) (c : List ℕ) {n : ℕ} → n ≡ held c → all_from (steps? g c) 0 (n - 0) ≡ all_from (steps? g c) 0 (held c)
all-steps-begin g c {n} e = let z : n - 0 ≡ held c = omega arith in ap (all_from (steps? g c) 0) z

module _ (g : Grammar) (c : List ℕ) {r : Bool} (e : r ≡ all_from (start? g c) 0 max_nonterminals) where
  pub starts-wrong : not r ≡ true → false ≡ recorded? g c
  unfolding recorded?
  starts-wrong h = stop _ (failed e h)

  pub steps-decide : not r ≡ false → {b : Bool} → b ≡ all_from (steps? g c) 0 (held c) → b ≡ recorded? g c
  unfolding recorded?
  steps-decide h y = on (passed e h) y

-- ---- the whole
module _ (g : Grammar) (n : ℕ) (c : List ℕ) {r : Bool} (e : r ≡ laid_out? g n c) where
  pub not-laid-out : not r ≡ true → false ≡ right? g n c
  unfolding right?
  not-laid-out h = stop _ (failed e h)

  module _ (h : not r ≡ false) where
    -- words that are laid out hold no more states than slots
    pub few-held : held c ≤ slots (length c)
    unfolding laid_out?
    few-held =
        let fits = leb (held c) (slots (length c)) in
        leb-true (held c) (slots (length c)) (T→true fits (and_T fits _ (true→T (laid_out? g n c) (passed e h))).0)

    module _ {q : Bool} (f : q ≡ single? c) where
      pub not-single : not q ≡ true → false ≡ right? g n c
      unfolding right?
      not-single k = on (passed e h) (stop _ (failed f k))

      pub records-decide : not q ≡ false → {b : Bool} → b ≡ recorded? g c → b ≡ right? g n c
      unfolding right?
      records-decide k y = on (passed e h) (on (passed f k) y)
