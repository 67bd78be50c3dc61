-- The one pass by cases, as the code meets them: one law for each way out of a loop's turn and each way out of a function.
use mathlib.Core.Path.{◌≡◌, refl, sym, ap, ◌∙◌}
use mathlib.Core.Bool.{cond}
use mathlib.Core.List.{List}
use Prim.Native.Nat.{ℕ, zero, suc, ◌+◌, ◌-◌, ◌≤◌, ◌<◌}
use native.Mathlib.Omega.{arith}
use native.Mathlib.Decide.{dec_le}
use lib.ListN.{length, set}
use lib.Dec.{ltb}
use borrow.Author.Tests.{lt-ltb, le-ltb}
use Rattle.reader.specs.inside.Types.{Refusal, Read, Cursor, Value, Refused, OverLimit, Trailing, End}
use Rattle.grammar.specs.Limits.{max_kinds, max_nonterminals, max_productions, max_length, max_places}
use Rattle.number.specs.Fetching.{Tallied}
use Rattle.number.specs.Number.{limited_at, symbol_at}
use Rattle.number.proofs.FetchLaws.{is-cursor}
use Rattle.grammar.specs.Decode.{written}
use Rattle.grammar.specs.Grammar.{at}
use Rattle.grammar.specs.inside.Tables.{word_of, firsts_at, rules_at}
use Rattle.reader.specs.inside.Pass.{Out, out, on_read, on_out, symbols_of, productions_of, nonterminals_of, closing, finished, whole_pass}

-- a number's two cases
on-refused : (t : List ℕ) (k : ℕ → Cursor → Out) {x : Read} {r : Refusal} {c : Cursor} → x ≡ Refused r c → on_read t x k ≡ out x t
unfolding on_read
on-refused t k e = rw e

on_value : (t : List ℕ) (k : ℕ → Cursor → Out) {x : Read} {v : ℕ} {c : Cursor} → x ≡ Value v c → on_read t x k ≡ k v c
unfolding on_read
on_value t k e = rw e

-- ---- symbols
module _ (s : List ℕ) (kt nt a : ℕ) where
  abbrev more_symbols : ℕ → ℕ → List ℕ → ℕ → Cursor → Out
  more_symbols n p t v next = symbols_of s kt nt a n next.at (p + 1) (set t p (word_of (at a (written v))))

  symbols-step : (left b p : ℕ) (t : List ℕ) → 0 < left
      → symbols_of s kt nt a left b p t ≡ on_read t (symbol_at s kt nt b) (more_symbols (left - 1) p t)
  unfolding symbols_of
  symbols-step zero b p t h = absurd (omega arith)
  symbols-step (suc n) b p t h = let e : suc n - 1 ≡ n = omega arith in rw e

  -- as many symbols, however their number is worked out
  pub symbols-left : {left left' : ℕ} (b p : ℕ) (t : List ℕ) → left' ≡ left → symbols_of s kt nt a left' b p t ≡ symbols_of s kt nt a left b p t
  symbols-left b p t e = ap (λ (n : ℕ). symbols_of s kt nt a n b p t) e

  pub symbols-done : (left : ℕ) (c : Cursor) (p : ℕ) (t : List ℕ) {end : Out} {w : ℕ} → Tallied s c → left ≡ 0
      → symbols_of s kt nt a left c.at p t ≡ end → w ≡ word_of (at a End) → out (Value (p + 1) c) (set t p w) ≡ end
  unfolding symbols_of
  symbols-done left c p t k e i q = rw (q, is-cursor s c k) (rw e at i)

  module _ (left b p : ℕ) (t : List ℕ) {end : Out} (h : 0 < left) (i : symbols_of s kt nt a left b p t ≡ end)
      {n : Read} (e : n ≡ symbol_at s kt nt b) where
    onward : on_read t n (more_symbols (left - 1) p t) ≡ end
    onward = rw e (sym (symbols-step left b p t h) ∙ i)

    pub symbols-refused : {r : Refusal} {d : Cursor} → n ≡ Refused r d → out n t ≡ end
    symbols-refused q = sym (on-refused t _ q) ∙ onward

    pub symbols-more : {v : ℕ} {next : Cursor} {w : ℕ} → n ≡ Value v next → w ≡ word_of (at a (written v))
        → symbols_of s kt nt a (left - 1) next.at (p + 1) (set t p w) ≡ end
    symbols-more q z = rw z (sym (on_value t _ q) ∙ onward)

  -- where symbols end
  abbrev EndsAt : ℕ → Read → Type 0
  EndsAt q (Value v c) = v ≡ q
  EndsAt q (Refused r c) = Unit {0}

  ends_on : (n : ℕ) (p : ℕ) (t : List ℕ) → ((v : ℕ) (next : Cursor) → EndsAt (p + 1 + n + 1) (more_symbols n p t v next).answer)
      → (x : Read) → EndsAt (p + suc n + 1) (on_read t x (more_symbols n p t)).answer
  unfolding on_read
  ends_on n p t ih (Value v next) = let e : p + suc n + 1 ≡ p + 1 + n + 1 = omega arith in rw e (ih v next)
  ends_on n p t ih (Refused r c) = tt

  ends : (n b p : ℕ) (t : List ℕ) → EndsAt (p + n + 1) (symbols_of s kt nt a n b p t).answer
  unfolding symbols_of
  ends zero b p t = omega arith
  ends (suc n) b p t = ends_on n p t (λ v next. ends n next.at (p + 1) (set t p (word_of (at a (written v))))) (symbol_at s kt nt b)

  pub symbols-end : (n b p : ℕ) (t : List ℕ) {x : Read} {t' : List ℕ} {c' : Cursor} {q : ℕ}
      → out x t' ≡ symbols_of s kt nt a n b p t → x ≡ Value q c' → q ≡ p + n + 1
  symbols-end n b p t e f = rw (← e, f) at (ends n b p t)

-- ---- productions
module _ (s : List ℕ) (kt nt a : ℕ) where
  abbrev behind_symbols : ℕ → ℕ → Out → Out
  behind_symbols n k o = on_out o (λ q c' t'. productions_of s kt nt a n c'.at q (k + 1) t')

  abbrev more_productions : ℕ → ℕ → ℕ → ℕ → List ℕ → ℕ → Cursor → Out
  more_productions n b p k t m next =
      cond (ltb max_places (p + m + 1)) (out (Refused (OverLimit b) next) t) (behind_symbols n k (symbols_of s kt nt a m next.at p (set t (firsts_at + k) p)))

  productions-step : (left b p k : ℕ) (t : List ℕ) → 0 < left
      → productions_of s kt nt a left b p k t ≡ on_read t (limited_at s 0 max_length b) (more_productions (left - 1) b p k t)
  unfolding productions_of
  productions-step zero b p k t h = absurd (omega arith)
  productions-step (suc n) b p k t h = let e : suc n - 1 ≡ n = omega arith in rw e

  -- as many productions, however their number is worked out
  pub productions-left : {left left' : ℕ} (b p k : ℕ) (t : List ℕ) → left' ≡ left
      → productions_of s kt nt a left' b p k t ≡ productions_of s kt nt a left b p k t
  productions-left b p k t e = ap (λ (n : ℕ). productions_of s kt nt a n b p k t) e

  pub productions-done : (left : ℕ) (c : Cursor) (p k : ℕ) (t : List ℕ) {end : Out} → Tallied s c → left ≡ 0
      → productions_of s kt nt a left c.at p k t ≡ end → out (Value p c) t ≡ end
  unfolding productions_of
  productions-done left c p k t h e i = rw (is-cursor s c h) (rw e at i)

  module _ (left b p k : ℕ) (t : List ℕ) {end : Out} (h : 0 < left) (i : productions_of s kt nt a left b p k t ≡ end)
      {n : Read} (e : n ≡ limited_at s 0 max_length b) where
    on-length : on_read t n (more_productions (left - 1) b p k t) ≡ end
    on-length = rw e (sym (productions-step left b p k t h) ∙ i)

    pub productions-refused : {r : Refusal} {d : Cursor} → n ≡ Refused r d → out n t ≡ end
    productions-refused q = sym (on-refused t _ q) ∙ on-length

    module _ {m : ℕ} {next : Cursor} (q : n ≡ Value m next) where
      counted : more_productions (left - 1) b p k t m next ≡ end
      counted = sym (on_value t _ q) ∙ on-length

      pub productions-full : max_places < p + m + 1 → out (Refused (OverLimit b) next) t ≡ end
      productions-full l = rw (lt-ltb max_places (p + m + 1) l) at counted

      module _ {w : ℕ} (z : w ≡ p) (l : p + m + 1 ≤ max_places) {x : Read} {t' : List ℕ}
          (g : out x t' ≡ symbols_of s kt nt a m next.at p (set t (firsts_at + k) w)) where
        pieced : behind_symbols (left - 1) k (out x t') ≡ end
        pieced = ap (behind_symbols (left - 1) k) (rw z at g) ∙ (rw (le-ltb max_places (p + m + 1) l) at counted)

        pub productions-piece : {r : Refusal} {c : Cursor} → x ≡ Refused r c → out x t' ≡ end
        productions-piece y = sym (on-refused t' _ y) ∙ pieced

        pub productions-more : {c' : Cursor} {p' : ℕ} → x ≡ Value p' c' → productions_of s kt nt a (left - 1) c'.at p' (k + 1) t' ≡ end
        productions-more y = sym (on_value t' _ y) ∙ pieced

  -- where productions end: one place further for each at least, and within the limit
  abbrev EndsIn : ℕ → Read → Type 0
  EndsIn p (Value q c) = (p ≤ q) × (q ≤ max_places)
  EndsIn p (Refused r c) = Unit {0}

  abbrev Bounded : ℕ → Type 0
  Bounded n = (b p k : ℕ) (t : List ℕ) → p ≤ max_places → EndsIn (p + n) (productions_of s kt nt a n b p k t).answer

  ends-behind : (n m p k : ℕ) → Bounded n → p + m + 1 ≤ max_places → (o : Out) → EndsAt s kt nt a (p + m + 1) o.answer
      → EndsIn (p + suc n) (behind_symbols n k o).answer
  unfolding on_read
  ends-behind n m p k ih l o = go o.answer
    where
      up : (x : Read) → EndsIn (p + m + 1 + n) x → EndsIn (p + suc n) x
      up (Value q c) h = omega arith
      up (Refused r c) h = tt

      go : (x : Read) → EndsAt s kt nt a (p + m + 1) x
          → EndsIn (p + suc n) (on_read o.tables x (λ q c'. productions_of s kt nt a n c'.at q (k + 1) o.tables)).answer
      go (Value q c) e = rw e (up (productions_of s kt nt a n c.at (p + m + 1) (k + 1) o.tables).answer (ih c.at (p + m + 1) (k + 1) o.tables l))
      go (Refused r c) e = tt

  ends-length : (n b p k : ℕ) (t : List ℕ) → Bounded n → (x : Read)
      → EndsIn (p + suc n) (on_read t x (more_productions n b p k t)).answer
  unfolding on_read
  ends-length n b p k t ih (Value m next) = go (dec_le (p + m + 1) max_places)
    where
      go : Dec (p + m + 1 ≤ max_places) → EndsIn (p + suc n) (more_productions n b p k t m next).answer
      go (yes l) =
          rw (le-ltb max_places (p + m + 1) l)
          (ends-behind n m p k ih l (symbols_of s kt nt a m next.at p (set t (firsts_at + k) p)) (ends s kt nt a m next.at p (set t (firsts_at + k) p)))
      go (no l) = rw (lt-ltb max_places (p + m + 1) (omega arith)) tt
  ends-length n b p k t ih (Refused r d) = tt

  ends-productions : (n : ℕ) → Bounded n
  unfolding productions_of
  ends-productions zero b p k t l = omega arith
  ends-productions (suc n) b p k t l = ends-length n b p k t (ends-productions n) (limited_at s 0 max_length b)

  pub productions-end : (n b p k : ℕ) (t : List ℕ) {x : Read} {t' : List ℕ} {c' : Cursor} {q : ℕ}
      → out x t' ≡ productions_of s kt nt a n b p k t → x ≡ Value q c' → p ≤ max_places → (p + n ≤ q) × (q ≤ max_places)
  productions-end n b p k t e f l = rw (← e, f) at (ends-productions n b p k t l)

-- ---- nonterminals
module _ (s : List ℕ) (kt nt : ℕ) where
  abbrev behind_productions : ℕ → ℕ → ℕ → Out → Out
  behind_productions a n k o = on_out o (λ q c' t'. nonterminals_of s kt nt (a + 1) n c'.at q k t')

  abbrev more_nonterminals : ℕ → ℕ → ℕ → ℕ → List ℕ → ℕ → Cursor → Out
  more_nonterminals a n p k t m next = behind_productions a n (k + m) (productions_of s kt nt a m next.at p k (set t (rules_at + a) k))

  rules-step : (a left b p k : ℕ) (t : List ℕ) → 0 < left
      → nonterminals_of s kt nt a left b p k t ≡ on_read t (limited_at s 1 max_productions b) (more_nonterminals a (left - 1) p k t)
  unfolding nonterminals_of
  rules-step a zero b p k t h = absurd (omega arith)
  rules-step a (suc n) b p k t h = let e : suc n - 1 ≡ n = omega arith in rw e

  pub rules-done : (a left : ℕ) (c : Cursor) (p k : ℕ) (t : List ℕ) {end : Out} {w : ℕ} → Tallied s c → left ≡ 0 → w ≡ k
      → nonterminals_of s kt nt a left c.at p k t ≡ end → out (Value p c) (set t (rules_at + a) w) ≡ end
  unfolding nonterminals_of
  rules-done a left c p k t h e z i = rw (z, is-cursor s c h) (rw e at i)

  module _ (a left b p k : ℕ) (t : List ℕ) {end : Out} (h : 0 < left) (i : nonterminals_of s kt nt a left b p k t ≡ end)
      {n : Read} (e : n ≡ limited_at s 1 max_productions b) where
    on-count : on_read t n (more_nonterminals a (left - 1) p k t) ≡ end
    on-count = rw e (sym (rules-step a left b p k t h) ∙ i)

    pub rules-refused : {r : Refusal} {d : Cursor} → n ≡ Refused r d → out n t ≡ end
    rules-refused q = sym (on-refused t _ q) ∙ on-count

    module _ {m : ℕ} {next : Cursor} (q : n ≡ Value m next) {w : ℕ} (z : w ≡ k)
        {x : Read} {t' : List ℕ} (g : out x t' ≡ productions_of s kt nt a m next.at p k (set t (rules_at + a) w)) where
      all-pieced : behind_productions a (left - 1) (k + m) (out x t') ≡ end
      all-pieced = ap (behind_productions a (left - 1) (k + m)) (rw z at g) ∙ (sym (on_value t _ q) ∙ on-count)

      pub rules-piece : {r : Refusal} {c : Cursor} → x ≡ Refused r c → out x t' ≡ end
      rules-piece y = sym (on-refused t' _ y) ∙ all-pieced

      pub rules-more : {c' : Cursor} {p' : ℕ} (left' : ℕ) → left' ≡ left - 1 → x ≡ Value p' c'
          → nonterminals_of s kt nt (a + 1) left' c'.at p' (k + m) t' ≡ end
      rules-more left' d y = rw d (sym (on_value t' _ y) ∙ all-pieced)

  -- where the nonterminals end
  abbrev BoundedRules : ℕ → Type 0
  BoundedRules n = (a b p k : ℕ) (t : List ℕ) → p ≤ max_places → EndsIn s kt nt 0 0 (nonterminals_of s kt nt a n b p k t).answer

  ends-count : (a n : ℕ) (p k : ℕ) (t : List ℕ) → BoundedRules n → p ≤ max_places → (x : Read)
      → EndsIn s kt nt 0 0 (on_read t x (more_nonterminals a n p k t)).answer
  unfolding on_read
  ends-count a n p k t ih l (Value m next) =
      go (productions_of s kt nt a m next.at p k (set t (rules_at + a) k)) (ends-productions s kt nt a m next.at p k (set t (rules_at + a) k) l)
    where
      go : (o : Out) → EndsIn s kt nt a (p + m) o.answer → EndsIn s kt nt 0 0 (behind_productions a n (k + m) o).answer
      go o = by_answer o.answer
        where
          by_answer : (x : Read) → EndsIn s kt nt a (p + m) x
              → EndsIn s kt nt 0 0 (on_read o.tables x (λ q c'. nonterminals_of s kt nt (a + 1) n c'.at q (k + m) o.tables)).answer
          by_answer (Value q c) h = ih (a + 1) c.at q (k + m) o.tables h.1
          by_answer (Refused r c) h = tt
  ends-count a n p k t ih l (Refused r c) = tt

  ends-rules : (n : ℕ) → BoundedRules n
  unfolding nonterminals_of
  ends-rules zero a b p k t l = omega arith
  ends-rules (suc n) a b p k t l = ends-count a n p k t (ends-rules n) l (limited_at s 1 max_productions b)

  pub rules-end : (n a b p k : ℕ) (t : List ℕ) {x : Read} {t' : List ℕ} {c' : Cursor} {q : ℕ}
      → out x t' ≡ nonterminals_of s kt nt a n b p k t → x ≡ Value q c' → p ≤ max_places → q ≤ max_places
  rules-end n a b p k t e f l = (rw (← e, f) at (ends-rules n a b p k t l)).1

-- ---- the whole
module _ (s t : List ℕ) where
  abbrev behind_rules : ℕ → ℕ → Out → Out
  behind_rules kt nt o = on_out o (λ p c t'. closing s kt nt p c t')

  module _ {n : Read} (e : n ≡ limited_at s 1 max_kinds 0) where
    pub pass-kinds : {r : Refusal} {d : Cursor} → n ≡ Refused r d → out n t ≡ whole_pass s t
    unfolding whole_pass
    pass-kinds q = rw (← e) (sym (on-refused t _ q))

    module _ {kt : ℕ} {c : Cursor} (q : n ≡ Value kt c) {m : Read} (e' : m ≡ limited_at s 1 max_nonterminals c.at) where
      abbrev after_count : ℕ → Cursor → Out
      after_count nt c' = behind_rules kt nt (nonterminals_of s kt nt 0 nt c'.at 0 0 t)

      after-kinds : whole_pass s t ≡ on_read t m after_count
      unfolding whole_pass
      after-kinds = rw (← e, q, e') (on_value t _ refl)

      pub pass-count : {r : Refusal} {d : Cursor} → m ≡ Refused r d → out m t ≡ whole_pass s t
      pass-count y = sym (after-kinds ∙ on-refused t _ y)

      module _ {nt : ℕ} {c' : Cursor} (y : m ≡ Value nt c') {x : Read} {t' : List ℕ} (g : out x t' ≡ nonterminals_of s kt nt 0 nt c'.at 0 0 t)
        where
          after-rules : whole_pass s t ≡ behind_rules kt nt (out x t')
          after-rules = after-kinds ∙ on_value t _ y ∙ ap (behind_rules kt nt) (sym g)

          pub pass-rules : {r : Refusal} {c : Cursor} → x ≡ Refused r c → out x t' ≡ whole_pass s t
          pass-rules z = sym (after-rules ∙ on-refused t' _ z)

          module _ {p : ℕ} {c'' : Cursor} (z : x ≡ Value p c'') where
            at-end : whole_pass s t ≡ closing s kt nt p c'' t'
            at-end = after-rules ∙ on_value t' _ z

            pub pass-trailing : c''.at < length s → out (Refused (Trailing c''.at) c'') t' ≡ whole_pass s t
            unfolding closing
            pass-trailing l = sym (at-end ∙ rw (lt-ltb c''.at (length s) l))

            pub pass-whole : length s ≤ c''.at → {t'' : List ℕ} → t'' ≡ finished kt nt p t' → out (Value p c'') t'' ≡ whole_pass s t
            unfolding closing
            pass-whole l f = rw f (sym (at-end ∙ rw (le-ltb c''.at (length s) l)))
