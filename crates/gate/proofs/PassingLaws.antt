-- The gate way by way: each refusal is the definition's, and what passes is admitted.
use mathlib.Core.Path.{◌≡◌, refl, sym, ap, ◌∙◌}
use mathlib.Core.Bool.{not, ◌||◌}
use mathlib.Core.Option.{Option, none, some}
use mathlib.Core.List.{List}
use Prim.Native.Nat.{ℕ, zero, suc, ◌+◌, ◌*◌, ◌≤◌, ◌<◌}
use native.Mathlib.Decide.{dec_le}
use native.Mathlib.Nat.{mul-le-mul_right}
use native.Mathlib.Numerals.{add-one}
use native.Mathlib.Omega.{arith}
use lib.Dec.{eqb, ltb}
use lib.ListN.{length}
use borrow.Author.Tests.{lt-ltb, le-ltb, lt-leb, le-leb, ne_eqb}
use Rattle.std.specs.Prelude.{Option as Maybe, Some, None, Ok, Err}
use Rattle.base.proofs.Booleans.{clash}
use Rattle.number.specs.declared.Refusal.{Refusal}
use Rattle.grammar.specs.Limits.{max_places}
use Rattle.grammar.specs.Grammar as grammar
use Rattle.grammar.specs.inside.Tables.{grammar_in}
use Rattle.soundness.specs.Verdict.{Verdict}
use Rattle.soundness.specs.inside.Compiled.{Compiled}
use Rattle.derivation.specs.Space.{max_tokens, space_words, space_fixed, space_each}
use Rattle.derivation.specs.inside.Ready.{Ready}
use Rattle.derivation.specs.Demand2.{Known as AllKnown}
use Rattle.derivation.specs.Gate as definition
use Rattle.derivation.proofs.ReadyLaws.{ready-size, sound-judged}
use Rattle.derivation.proofs.GateLaws.{none-known, note-8, note-9, note-11, note-passes, gate-refuses, gate-sound}
use Rattle.gate.specs.Reading.{refused_number, refused_place, tokens_of}
use Rattle.gate.specs.inside.Passing.{Gate, Answers, NoteGated, Gated}
use Rattle.gate.specs.declared.reading.ReadingRefusal.{ReadingRefusal}
use Rattle.gate.specs.declared.reading.ReadingRefusal.TheVariants.{Grammar, LongNote, UnknownToken, ShortWorkspace}

-- ---- what comes of a gate, by what the code answered
module _ {A : Type 0} {says : definition.Gate} {t w : List ℕ} {space : ℕ} {x : Gate} (h : Answers says t w space x) (refused : ℕ → ℕ → A)
    (on : grammar.Grammar → A) where
  pub at-shut : {e : ReadingRefusal} → x ≡ Err e → refused (refused_number e) (refused_place e) ≡ definition.at_gate refused on says
  at-shut {e} q = ap (definition.at_gate refused on) (rw q at h.is)

  pub at-passed : x ≡ Ok tt → on (grammar_in t) ≡ definition.at_gate refused on says
  at-passed e = ap (definition.at_gate refused on) (rw e at h.is)

-- ---- the words of working space, as the code works them out
pub space-is : {P Q : ℕ} (n : ℕ) → P ≡ Q → space_fixed + space_each * (P * (n + 1)) ≡ space_words Q n
space-is n e = rw (e, add-one)

pub space-small : (t w : List ℕ) → Ready t → {P : ℕ} → P ≡ (grammar_in t).size → length w ≤ max_tokens → P * (length w + 1) ≤ 32895
space-small t w h {P} e l =
    let z = mul-le-mul_right {m = P} {n = max_places} (length w + 1) (omega (arith, ready-size t h)) in
    omega arith

-- ---- the search for an unknown token: the code's test
pub unknown-is : (kinds t : ℕ) → (eqb t 0 || ltb kinds t) ≡ not (definition.known? kinds t)
unknown-is kinds zero = refl
unknown-is kinds (suc t) = rw (ne_eqb (suc t) 0 (λ z. omega arith)) (go (dec_le (suc t) kinds))
  where
    go : Dec (suc t ≤ kinds) → ltb kinds (suc t) ≡ not (definition.known? kinds (suc t))
    go (yes l) = rw (le-ltb kinds (suc t) l, le-leb 1 (suc t) (omega arith), le-leb (suc t) kinds l)
    go (no l) = rw (lt-ltb kinds (suc t) (omega arith), le-leb 1 (suc t) (omega arith), lt-leb (suc t) kinds (omega arith))

-- and what it found
pub unknown-of : (o : Option ℕ) {k : Maybe ℕ} {at : ℕ} → k ≡ tokens_of o → k ≡ Some at → o ≡ some at
unknown-of none e f = clash (cc)
unknown-of (some j) {at = at} e f = let z : j ≡ at = cc in ap some z

pub known_of : (o : Option ℕ) {k : Maybe ℕ} → k ≡ tokens_of o → k ≡ None → o ≡ none
known_of none e f = refl
known_of (some j) e f = clash (cc)

-- ---- a refusal
shut-answers : (says : definition.Gate) (t w : List ℕ) (space : ℕ) (e : ReadingRefusal) → definition.shut (refused_number e) (refused_place e) ≡ says
    → Answers says t w space (Err e)
shut-answers says t w space e q = record { is = q; admits = λ z. clash (cc) }

-- ---- 8, 9 and 11
module _ (t w : List ℕ) (space : ℕ) where
  abbrev said : definition.Gate
  said = definition.note_gate (grammar_in t) w space

  pub long-note : max_tokens < length w → NoteGated t w space (Err LongNote)
  long-note l = shut-answers said t w space LongNote (sym (note-8 (grammar_in t) w space l))

  module _ (short : length w ≤ max_tokens) {kinds : ℕ} (c : kinds ≡ (grammar_in t).kinds) {k : Maybe ℕ}
      (e : k ≡ tokens_of (definition.first_unknown kinds w)) where
    pub unknown-token : {at : ℕ} → k ≡ Some at → NoteGated t w space (Err (UnknownToken at))
    unknown-token {at} f =
        shut-answers said t w space (UnknownToken at)
        (sym (note-9 (grammar_in t) w space at short (rw c at (unknown-of (definition.first_unknown kinds w) e f))))

    module _ (f : k ≡ None) {P : ℕ} (size : P ≡ (grammar_in t).size) where
      tokens : AllKnown (grammar_in t).kinds w
      tokens = none-known (grammar_in t).kinds w (rw c at (known_of (definition.first_unknown kinds w) e f))

      pub short-space : space < space_fixed + space_each * (P * (length w + 1)) → NoteGated t w space (Err ShortWorkspace)
      short-space l =
          shut-answers said t w space ShortWorkspace
          (sym (note-11 (grammar_in t) w space short tokens (omega (arith, space-is (length w) size))))

      pub note-passed : Ready t → space_fixed + space_each * (P * (length w + 1)) ≤ space → NoteGated t w space (Ok tt)
      note-passed h l =
          let room : space_words (grammar_in t).size (length w) ≤ space = omega (arith, space-is (length w) size) in
          record {
            is = sym (note-passes (grammar_in t) w space short tokens room);
            admits = λ _. record { ready = h; short = short; tokens = tokens; room = room };
          }

-- ---- 1 to 7
module _ (s w : List ℕ) (space : ℕ) {v : Verdict} {t : List ℕ} (c : Compiled s v t) where
  pub refused-gate : {r : Refusal} → v ≡ Err r → Gated s w space t (Err (Grammar r))
  refused-gate {r} e =
      shut-answers (definition.gate s w space) t w space (Grammar r) (sym (gate-refuses s w space r (sym c.verdict ∙ e)))

  -- a sound grammar: the gate of the note decides
  pub sound-gate : {r : Gate} → v ≡ Ok tt → NoteGated t w space r → Gated s w space t r
  sound-gate {r} e x =
      let j = sound-judged s c e in
      let g : definition.gate s w space ≡ definition.note_gate (grammar_in t) w space
      = gate-sound s w space j.rules j.mark j.decoded (sym c.verdict ∙ e) ∙ ap (λ g. definition.note_gate g w space) (sym j.says) in
      rw g x
