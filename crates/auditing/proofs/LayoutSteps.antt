-- The layout's tests, as the code makes them.
use mathlib.Core.Path.{◌≡◌, refl, sym, ap, ◌∙◌}
use mathlib.Core.Bool.{Bool, true, false, ◌&&◌, not}
use mathlib.Core.List.{List, [], ◌∷◌}
use Prim.Native.Nat.{ℕ, zero, suc, ◌+◌, ◌-◌, ◌*◌, ◌≤◌, ◌<◌}
use native.Mathlib.Numerals.{add-one}
use native.Mathlib.Omega.{arith}
use lib.Bits.{bit_or}
use lib.Dec.{eqb, ltb, leb}
use lib.ListN.{length, get_or, take, drop, length-drop}
use lib.Seq.{drop-cons}
use Rattle.std.proofs.lemmas.List.{take_all}
use Rattle.std.specs.List.{list_all, fold, range_with_len}
use borrow.Author.Tests.{le-leb, lt-leb, le-ltb}
use Rattle.base.specs.Search.{all_from}
use Rattle.base.proofs.Booleans.{and_assoc, and-all, failed, passed, stop, on}
use Rattle.base.proofs.Bits.{or-none}
use Rattle.grammar.specs.Limits.{max_kinds}
use Rattle.grammar.specs.Grammar.{Grammar, alternatives, compile}
use Rattle.grammar.specs.inside.Tables.{grammar_in, nonterminals_in}
use Rattle.grammar.proofs.GrammarLaws.{no-alternatives}
use Rattle.grammar.proofs.WordLaws.{length-starts-in}
use Rattle.derivation.specs.inside.Ready.{Ready}
use Rattle.lookahead.specs.Closing.{max_kept}
use Rattle.configurations.specs.Packing.{config_words}
use Rattle.words.specs.Layout.{max_slots, slot_words, slot_head, slots, length_at, held_at, starts_at, bytes_at, fixed_words, slot_at, count_at}
use Rattle.words.specs.Layout.{step_at, configs_at}
use Rattle.words.specs.Words.{word, held, decision, kept_count, kept_words}
use Rattle.words.proofs.SlotLaws.{count-is}
use Rattle.auditing.specs.Coherence.{zeros?, fixed?, decides?, kept?, slot?, laid_out?}

-- ---- zeros
abbrev blank : ℕ → Bool
blank w = eqb w 0

-- words joined are 0 where each of them is
pub joined-is : (l : List ℕ) (all : ℕ) → eqb (fold bit_or all l) 0 ≡ (eqb all 0 && list_all blank l)
joined-is [] all = sym (and-all (eqb all 0))
joined-is (w ∷ l) all =
    joined-is l (bit_or all w) ∙ ap (λ (b : Bool). b && list_all blank l) (or-none all w) ∙ and_assoc (eqb all 0) (blank w) (list_all blank l)

-- the words of a part
part-blank : (c : List ℕ) (m i : ℕ) → i + m ≤ length c → list_all blank (take m (drop i c)) ≡ all_from (λ (k : ℕ). eqb (word c k) 0) i m
unfolding all_from
part-blank c zero i h = refl
part-blank c (suc m) i h = rw (drop-cons c i 0 (omega arith)) (ap (λ (b : Bool). eqb (word c i) 0 && b) (part-blank c m (suc i) (omega arith)))

pub part-zeros : (c : List ℕ) (i j : ℕ) → i ≤ j → j ≤ length c → {r : Bool} → r ≡ list_all blank (take (j - i) (drop i c)) → r ≡ zeros? c i j
unfolding zeros?
part-zeros c i j h l e = e ∙ part-blank c (j - i) i (omega arith)

-- as many words as there are from i on
pub rest-length : (c : List ℕ) (i : ℕ) → length c - i ≡ length (drop i c)
rest-length c i = sym (length-drop i c)

-- the words from i on
pub rest-zeros : (c : List ℕ) (i : ℕ) → i ≤ length c → {r : Bool} → r ≡ list_all blank (drop i c) → r ≡ zeros? c i (length c)
rest-zeros c i h e =
    part-zeros c i (length c) h (omega arith)
    (e ∙ ap (list_all blank) (sym (take_all (length c - i) (drop i c) (omega (arith, length-drop i c)))))

-- all numbers of a range
pub all-range : (p : ℕ → Bool) (i n : ℕ) → list_all p (range_with_len i n) ≡ all_from p i n
unfolding all_from
all-range p i zero = refl
all-range p i (suc n) = rw (add-one i) (ap (λ (b : Bool). p i && b) (all-range p (suc i) n))

module _ (n : ℕ) (c : List ℕ) {r : Bool} (e : r ≡ zeros? c 0 length_at) where
  pub front-used : not r ≡ true → false ≡ fixed? n c
  unfolding fixed?
  front-used h = stop _ (failed e h)

  module _ (h : not r ≡ false) {i : ℕ} (z : i ≡ suc held_at) {q : Bool} (f : q ≡ zeros? c i starts_at) where
    between : q ≡ zeros? c (suc held_at) starts_at
    between = f ∙ ap (λ (k : ℕ). zeros? c k starts_at) z

    pub between-used : not q ≡ true → false ≡ fixed? n c
    unfolding fixed?
    between-used k = on (passed e h) (stop _ (failed between k))

    pub end-decides : not q ≡ false → {x : Bool} → x ≡ zeros? c (bytes_at + n) fixed_words → x ≡ fixed? n c
    unfolding fixed?
    end-decides k y = on (passed e h) (on (passed between k) y)

-- ---- decisions
pub decides-nobody : (t : List ℕ) (a : ℕ) {n : ℕ} → n ≡ nonterminals_in t → n ≤ a → false ≡ decides? (grammar_in t) a
unfolding decides?
decides-nobody t a e l =
    let z : length (alternatives (grammar_in t) a) ≡ 0 = ap length (no-alternatives (grammar_in t) a (omega (arith, length-starts-in t))) in
    sym (le-ltb 1 (length (alternatives (grammar_in t) a)) (omega arith))

pub decides-by : (t : List ℕ) (a : ℕ) {n : ℕ} → n ≡ length (alternatives (grammar_in t) a) → ltb 1 n ≡ decides? (grammar_in t) a
unfolding decides?
decides-by t a e = rw e refl

pub ready-kinds : {t : List ℕ} → Ready t → (grammar_in t).kinds ≤ max_kinds
unfolding compile
ready-kinds {t} ready = omega (arith, ap (λ (g : Grammar). g.kinds) ready.says, ready.limited.kinds-most)

-- ---- a slot
module _ (g : Grammar) (c : List ℕ) (s : ℕ) {d : ℕ} (p : d ≡ decision c s) {r : Bool} (e : r ≡ decides? g d) where
  decider : r ≡ decides? g (decision c s)
  decider = e ∙ ap (decides? g) p

  pub no-decision : not r ≡ true → false ≡ slot? g c s
  unfolding slot?
  no-decision h = stop _ (failed decider h)

  module _ (h : not r ≡ false) {at n v : ℕ} (z : at ≡ slot_at s) (q : v ≡ get_or c (at + 1) 0) (m : n ≡ v) where
    its-count : get_or c (count_at s) 0 ≡ n
    its-count = let y : count_at s ≡ at + 1 = omega arith in ap (λ (i : ℕ). get_or c i 0) y ∙ sym (m ∙ q)

    pub nothing-kept : n ≡ 0 → false ≡ slot? g c s
    unfolding slot?
    nothing-kept l = on (passed decider h) (stop _ (lt-leb 1 (get_or c (count_at s) 0) (omega (arith, its-count))))

    something : 1 ≤ n → leb 1 (get_or c (count_at s) 0) ≡ true
    something l = le-leb 1 (get_or c (count_at s) 0) (omega (arith, its-count))

    pub too_many : max_kept < n → false ≡ slot? g c s
    unfolding slot?
    too_many l = on (passed decider h) (on (something (omega arith)) (stop _ (lt-leb (get_or c (count_at s) 0) max_kept (omega (arith, its-count)))))

    module _ (some : 1 ≤ n) (l : n ≤ max_kept) where
      pub kept-count-is : n ≡ kept_count c s
      kept-count-is = omega (arith, count-is c s q z)

      few-kept : leb (get_or c (count_at s) 0) max_kept ≡ true
      few-kept = le-leb (get_or c (count_at s) 0) max_kept (omega (arith, its-count))

      module _ {from behind : ℕ} (f : from ≡ at + slot_head) (b : behind ≡ from + config_words * n) where
        -- the part of the words that is lent
        pub part-is : take (behind - from) (drop from c) ≡ kept_words c s
        unfolding kept_words
        part-is =
            let y : behind - from ≡ config_words * kept_count c s = omega (arith, kept-count-is) in
            let x : from ≡ configs_at s = omega arith in
            λ i. take (y i) (drop (x i) c)

        module _ {k : Bool} (w : k ≡ kept? (take (behind - from) (drop from c))) where
          keeper : k ≡ kept? (kept_words c s)
          keeper = w ∙ ap kept? part-is

          pub not-kept : not k ≡ true → false ≡ slot? g c s
          unfolding slot?
          not-kept x = on (passed decider h) (on (something some) (on few-kept (stop _ (failed keeper x))))

          module _ (x : not k ≡ false) {i : ℕ} (j : i ≡ suc (step_at s g.kinds)) {o : Bool} (u : o ≡ zeros? c i from) where
            stepper : o ≡ zeros? c (suc (step_at s g.kinds)) (configs_at s)
            stepper = let y : from ≡ configs_at s = omega arith in u ∙ (λ k. zeros? c (j k) (y k))

            pub steps-used : not o ≡ true → false ≡ slot? g c s
            unfolding slot?
            steps-used y = on (passed decider h) (on (something some) (on few-kept (on (passed keeper x) (stop _ (failed stepper y)))))

            pub behind-decides : not o ≡ false → {to : ℕ} → to ≡ at + slot_words → {a : Bool} → a ≡ zeros? c behind to → a ≡ slot? g c s
            unfolding slot?
            behind-decides y {to} t {a} v =
                let x₁ : behind ≡ configs_at s + config_words * kept_count c s = omega (arith, kept-count-is, b) in
                let x₂ : to ≡ slot_at (suc s) = omega arith in
                on (passed decider h) (on (something some) (on few-kept (on (passed keeper x) (on (passed stepper y) (v ∙ (λ i. zeros? c (x₁ i) (x₂ i)))))))

-- ---- the whole layout
-- a number of states that fits is a number of slots
pub slots-few : (l : ℕ) {m h : ℕ} → m ≡ slots l → h ≤ m → h ≤ max_slots
unfolding slots
slots-few l e k = omega arith

-- the slots end within the words
pub slots-end : (l : ℕ) {m h at : ℕ} → m ≡ slots l → h ≤ m → at ≡ slot_at h → fixed_words ≤ l → at ≤ l
unfolding slots
slots-end l e k z f = omega arith

module _ (g : Grammar) (n : ℕ) (c : List ℕ) {h m : ℕ} (e : h ≡ held c) (f : m ≡ slots (length c)) where
  pub states-many : m < h → false ≡ laid_out? g n c
  unfolding laid_out?
  states-many l = stop _ (lt-leb (held c) (slots (length c)) (omega arith))

  module _ (l : h ≤ m) {r : Bool} (p : r ≡ fixed? n c) where
    few : leb (held c) (slots (length c)) ≡ true
    few = le-leb (held c) (slots (length c)) (omega arith)

    pub fixed-used : not r ≡ true → false ≡ laid_out? g n c
    unfolding laid_out?
    fixed-used x = on few (stop _ (failed p x))

    module _ (x : not r ≡ false) {i j : ℕ} (y : i ≡ slot_at h) (z : j ≡ length c) {b : Bool} (q : b ≡ zeros? c i j) where
      behind-is : b ≡ zeros? c (slot_at (held c)) (length c)
      behind-is = q ∙ (λ k. zeros? c ((y ∙ ap slot_at e) k) (z k))

      pub rest-used : not b ≡ true → false ≡ laid_out? g n c
      unfolding laid_out?
      rest-used w = on few (on (passed p x) (stop _ (failed behind-is w)))

      pub slots-decide : not b ≡ false → {o : Bool} → o ≡ all_from (slot? g c) 0 h → o ≡ laid_out? g n c
      unfolding laid_out?
      slots-decide w u = on few (on (passed p x) (on (passed behind-is w) (u ∙ ap (all_from (slot? g c) 0) e)))
