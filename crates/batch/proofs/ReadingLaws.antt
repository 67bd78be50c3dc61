-- A batch as a whole: each note is read as a quick reading made singly reads it, since no reading changes how the cache stands to the grammar.
use mathlib.Core.Path.{◌≡◌, refl, sym, ap, ◌∙◌}
use mathlib.Core.Bool.{Bool, true, false, not}
use mathlib.Core.List.{List, [], ◌∷◌}
use Prim.Native.Nat.{ℕ, ◌/◌}
use lib.Dec.{T}
use lib.ListN.{length}
use Rattle.std.specs.Prelude.{Ok, Err}
use Rattle.base.proofs.Booleans.{clash, true→T}
use Rattle.number.specs.declared.Refusal.{Refusal}
use Rattle.number.specs.Refusals.{refusal_number, refusal_place}
use Rattle.grammar.specs.Grammar.{Grammar}
use Rattle.grammar.specs.inside.Tables.{grammar_in}
use Rattle.soundness.specs.Verdict.{Verdict}
use Rattle.soundness.specs.inside.Compiled.{Compiled}
use Rattle.derivation.specs.Gate as definition
use Rattle.derivation.specs.Plain.{refuse}
use Rattle.derivation.proofs.ReadyLaws.{sound-judged, sound-ready, compiled-refuses, compiled-passes, compiled-gate}
use Rattle.words.specs.inside.Standings.{Standing, standing_of}
use Rattle.gate.specs.inside.Passing.{Gate, NoteGated}
use Rattle.gate.specs.declared.reading.ReadingRefusal.{ReadingRefusal}
use Rattle.gate.proofs.PassingLaws.{at-shut, at-passed}
use Rattle.adaptive.specs.Quick.{Reply, reply, over_cache, quick_reading}
use Rattle.adaptive.specs.Calls.{Call, call, quick, in_turn}
use Rattle.adaptive.proofs.AgreementLaws.{quick-stands}
use Rattle.quick.specs.inside.Replied.{replied, over_standing}
use Rattle.quick.proofs.ReadingLaws.{standing-over, standing-long}
use Rattle.batch.specs.Batches.{calls_of, Batched, batched, read_of, fits?, read_all, from18, batch_reading}
use Rattle.batch.specs.inside.Turns.{note_by, rest_of, Parted, AllRead}
use Rattle.batch.proofs.FitLaws.{fits-means}

-- ---- one note: its gate, and then the cache as it stands
module _ {t w : List ℕ} (row c : List ℕ) {space : ℕ} (x : Standing) {g : Gate} (h : NoteGated t w space g) where
  pub note-shut : {r : ReadingRefusal} → g ≡ Err r → replied (Err r) row c ≡ note_by x (grammar_in t) c (call w row space)
  unfolding note_by
  note-shut e = at-shut h (λ n p. reply (refuse n p row) c) (λ g. over_standing x g w row c) e

  pub note-passed : g ≡ Ok tt → {y : Reply} → y ≡ over_standing x (grammar_in t) w row c → y ≡ note_by x (grammar_in t) c (call w row space)
  unfolding note_by
  note-passed e q = q ∙ at-passed h (λ n p. reply (refuse n p row) c) (λ g. over_standing x g w row c) e

-- ---- the notes of a sound grammar
module _ (s : List ℕ) {v : Verdict} {t : List ℕ} (h : Compiled s v t) (sound : v ≡ Ok tt) {x : Standing} where
  -- over a cache that stands so, a note is read as a quick reading reads it
  note-quick : (c : List ℕ) (k : Call) → x ≡ standing_of s c → note_by x (grammar_in t) c k ≡ quick s c k
  unfolding note_by quick_reading
  note-quick c k e =
      let refused : ℕ → ℕ → Reply = λ n p. reply (refuse n p k.row) c in
      let on : Grammar → Reply = λ g. over_cache s g k.note k.row c in
      ap (λ (f : Grammar → Reply). definition.at_gate refused f (definition.note_gate (grammar_in t) k.note k.space))
      (λ i g. standing-over s g k.note k.row c e i)
      ∙ ap (λ (y : definition.Gate). definition.at_gate refused on y) (sym (compiled-gate s h k.note k.space sound))

  -- and leaves it standing so
  stays : (c : List ℕ) (k : Call) → x ≡ standing_of s c → x ≡ standing_of s (quick s c k).words
  stays c k e =
      let j = sound-judged s h sound in
      e ∙ sym (quick-stands s j.rules j.mark j.decoded (sym h.verdict ∙ sound) c k)

  all-quick : (ks : List Call) (c : List ℕ) → x ≡ standing_of s c → in_turn (note_by x (grammar_in t)) c ks ≡ in_turn (quick s) c ks
  unfolding in_turn
  all-quick [] c e = refl
  all-quick (k ∷ ks) c e =
      ap (λ (y : Reply). y ∷ in_turn (note_by x (grammar_in t)) y.words ks) (note-quick c k e)
      ∙ ap (λ (ys : List Reply). quick s c k ∷ ys) (all-quick ks (quick s c k).words (stays c k e))

-- ---- what the loop may rest on
pub parted : (s tokens lengths answers row c : List ℕ) {v : Verdict} {t : List ℕ} → Compiled s v t → v ≡ Ok tt → {b : Bool}
    → b ≡ fits? tokens lengths answers row → not b ≡ false → {x : Standing} → x ≡ standing_of s c → Parted t tokens lengths answers row c x
parted s tokens lengths answers row c h sound {b} e n f =
    record { ready = sound-ready s h sound; long = standing-long s c f; fits = fits-means tokens lengths answers row (go b e n) }
  where
    go : (b : Bool) → b ≡ fits? tokens lengths answers row → not b ≡ false → T (fits? tokens lengths answers row)
    go true e n = true→T (fits? tokens lengths answers row) (sym e)
    go false e n = clash (cc)

-- ---- the whole call
module _ (s tokens lengths answers row : List ℕ) (space : ℕ) (c : List ℕ) {v : Verdict} {t : List ℕ} (h : Compiled s v t) where
  abbrev whole : Batched
  whole = batch_reading s tokens lengths answers row space c

  abbrev refused : ℕ → ℕ → Batched
  refused n p = batched n p answers row c

  pub grammar-is : {r : Refusal} → v ≡ Err r → refused (refusal_number r) (refusal_place r) ≡ whole
  unfolding batch_reading
  grammar-is e = rw (compiled-refuses s h e)

  module _ (sound : v ≡ Ok tt) {b : Bool} (e : b ≡ fits? tokens lengths answers row) where
    on-sound : whole ≡ from18 s tokens lengths answers row space c
    unfolding batch_reading
    on-sound = rw (compiled-passes s h sound)

    pub bad-is : not b ≡ true → refused 18 0 ≡ whole
    unfolding from18
    bad-is n = go b e n
      where
        go : (b : Bool) → b ≡ fits? tokens lengths answers row → not b ≡ true → refused 18 0 ≡ whole
        go true e n = clash (cc)
        go false e n = rw (on-sound, ← e)

    pub read_is : not b ≡ false → {x : Standing} → x ≡ standing_of s c → {answers' row' c' : List ℕ}
        → AllRead c (rest_of (note_by x (grammar_in t)) space (length row / length lengths) lengths tokens row c) answers' row' c'
        → batched 0 0 answers' row' c' ≡ whole
    unfolding from18 read_all
    read_is n {x} f {answers'} {row'} {c'} y = go b e n
      where
        go : (b : Bool) → b ≡ fits? tokens lengths answers row → not b ≡ false → batched 0 0 answers' row' c' ≡ whole
        go true e n =
            rw (on-sound, ← e, y.answers, y.row, y.words)
            (ap (read_of c) (all-quick s h sound (calls_of space (length row / length lengths) lengths tokens row) c f))
        go false e n = clash (cc)
