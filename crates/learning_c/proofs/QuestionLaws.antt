-- Single questions by the code's ways out.
use mathlib.Core.Path.{◌≡◌}
use mathlib.Core.List.{List}
use Prim.Native.Nat.{ℕ, ◌≤◌, ◌<◌, ◌^◌}
use lib.ListN.{length, get_or}
use borrow.Author.Tests.{lt-ltb, le-ltb}
use Rattle.std.specs.Prelude.{Ok, Err}
use Rattle.number.specs.declared.Refusal.{Refusal}
use Rattle.grammar.specs.Limits.{max_kinds}
use Rattle.grammar.specs.Grammar.{Grammar}
use Rattle.grammar.specs.inside.Tables.{grammar_in, nonterminals_in}
use Rattle.grammar.proofs.WordLaws.{length-starts-in}
use Rattle.soundness.specs.Verdict.{Verdict}
use Rattle.soundness.specs.inside.Compiled.{Compiled}
use Rattle.derivation.proofs.ReadyLaws.{compiled-refuses, compiled-passes}
use Rattle.words.specs.Layout.{min_words, slots, slot_at}
use Rattle.words.specs.Words.{decision}
use Rattle.cache.specs.Recording.{Learned, learned, ask_start, ask_step}
use Rattle.learning_c.specs.Questions.{start_in, step_in, start_asked, step_asked}

-- ---- for a sound grammar
module _ (t c : List ℕ) (a : ℕ) where
  pub start-short : length c < min_words → learned 0 c ≡ start_in (grammar_in t) c a
  unfolding start_in
  start-short h = rw (lt-ltb (length c) min_words h)

  module _ (h : min_words ≤ length c) where
    pub start-known : {x : Learned} → a < nonterminals_in t → x ≡ ask_start (grammar_in t) c a → x ≡ start_in (grammar_in t) c a
    unfolding start_in
    start-known l e = rw (le-ltb (length c) min_words h, length-starts-in t, lt-ltb a (nonterminals_in t) l) e

    pub start-unknown : nonterminals_in t ≤ a → learned 0 c ≡ start_in (grammar_in t) c a
    unfolding start_in
    start-unknown l = rw (le-ltb (length c) min_words h, length-starts-in t, le-ltb a (nonterminals_in t) l)

-- a slot's decision is a word
pub decision-fits : (c : List ℕ) (s : ℕ) {a : ℕ} → ((k : ℕ) → get_or c k 0 < 2 ^ 32) → a ≡ decision c s → a < 2 ^ 32
unfolding decision
decision-fits c s h e = rw e (h (slot_at s))

module _ (g : Grammar) (c : List ℕ) (s t : ℕ) where
  pub step-high : max_kinds < t → learned 0 c ≡ step_in g c s t
  unfolding step_in
  step-high h = rw (lt-ltb max_kinds t h)

  module _ (h : t ≤ max_kinds) where
    pub step-known : {x : Learned} {a : ℕ} → s < slots (length c) → a ≡ decision c s → x ≡ ask_step g c a s t → x ≡ step_in g c s t
    unfolding step_in
    step-known l f e = rw (le-ltb max_kinds t h, lt-ltb s (slots (length c)) l, ← f) e

    pub step-unknown : slots (length c) ≤ s → learned 0 c ≡ step_in g c s t
    unfolding step_in
    step-unknown l = rw (le-ltb max_kinds t h, le-ltb s (slots (length c)) l)

-- ---- for any bytes
module _ (s c : List ℕ) {v : Verdict} {t : List ℕ} (k : Compiled s v t) where
  pub start-refused : (a : ℕ) {q : Refusal} → v ≡ Err q → learned 0 c ≡ start_asked s c a
  unfolding start_asked
  start-refused a e = rw (compiled-refuses s k e)

  pub start-asked : {a b : ℕ} {x : Learned} → v ≡ Ok tt → b ≡ a → x ≡ start_in (grammar_in t) c b → x ≡ start_asked s c a
  unfolding start_asked
  start-asked {a} e f q = rw (compiled-passes s k e) (rw f at q)

  pub step-refused : (n i : ℕ) {q : Refusal} → v ≡ Err q → learned 0 c ≡ step_asked s c n i
  unfolding step_asked
  step-refused n i e = rw (compiled-refuses s k e)

  pub step-asked : {n m i j : ℕ} {x : Learned} → v ≡ Ok tt → m ≡ n → j ≡ i → x ≡ step_in (grammar_in t) c m j → x ≡ step_asked s c n i
  unfolding step_asked
  step-asked {n} {m} {i} e f h q = rw (compiled-passes s k e) (rw (f, h) at q)
