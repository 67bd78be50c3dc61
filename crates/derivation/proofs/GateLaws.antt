-- What the gate says: it is passed exactly if the bytes are a sound grammar, the note has at most 128 tokens and only known ones, and the working space
-- is long enough; and a law for each of its refusals.
use mathlib.Core.Path.{◌≡◌, refl, ap, ◌∙◌}
use mathlib.Core.Bool.{Bool, true, false, not}
use mathlib.Core.Option.{Option, none, some}
use mathlib.Core.List.{List}
use Prim.Native.Nat.{ℕ, ◌≤◌, ◌<◌}
use native.Mathlib.Omega.{arith}
use lib.Dec.{T, leb, ltb, leb→le}
use lib.ListN.{length, get_or}
use borrow.Author.Tests.{ltb-true, ltb-false, lt-ltb, le-ltb, le-leb}
use Rattle.std.specs.Prelude.{Ok, Err}
use Rattle.base.specs.Search.{LowestIs, this, nothing}
use Rattle.base.proofs.Booleans.{clash, and_T, true→T}
use Rattle.base.proofs.Lowest.{lowest-is}
use Rattle.number.specs.declared.Refusal.{Refusal}
use Rattle.number.specs.declared.Refusal.TheVariants.{Unfinished, Malformed, OverLimit, UnknownSymbol, Trailing, Unproductive, LeftRecursive}
use Rattle.number.specs.Refusals.{refusal_number}
use Rattle.grammar.specs.Decode.{Rules, Mark, Parsed, got, refused, decode}
use Rattle.grammar.specs.Grammar.{Grammar, compile}
use Rattle.soundness.specs.Verdict.{Verdict}
use Rattle.soundness.specs.Check.{judge_of, check_of}
use Rattle.derivation.specs.Space.{max_tokens, space_words}
use Rattle.derivation.specs.Gate.{Gate, shut, passed, at_gate, shut_by, on_verdict, on_rules, sound_gate, known?, first_unknown, note_gate, gate}
use Rattle.derivation.specs.Demand2.{Known}

-- ---- 9: known tokens
module _ (kinds : ℕ) (w : List ℕ) where
  -- token i is none of them
  abbrev unknown? : ℕ → Bool
  unknown? i = not (known? kinds (get_or w i 0))

  abbrev pub Unknown : ℕ → Type 0
  Unknown i = (i < length w) × T (unknown? i)

  pub first-unknown : LowestIs Unknown (first_unknown kinds w)
  unfolding first_unknown
  first-unknown = lowest-is Unknown unknown? (length w) (λ i l t. (l, t)) (λ i x. (x.1, x.0))

  pub known-none : Known kinds w → first_unknown kinds w ≡ none
  known-none h = go (first_unknown kinds w) first-unknown
    where
      go : (o : Option ℕ) → LowestIs Unknown o → o ≡ none
      go o (this i (l, t) k) = let b = h i l in absurd (rw (le-leb 1 (get_or w i 0) b.0, le-leb (get_or w i 0) kinds b.1) at t)
      go o (nothing k) = refl

  -- and where none is unknown, all are known
  pub none-known : first_unknown kinds w ≡ none → Known kinds w
  none-known e i l = go (first_unknown kinds w) e first-unknown
    where
      known : (x : Bool) → known? kinds (get_or w i 0) ≡ x → ¬ T (not x) → (1 ≤ get_or w i 0) × (get_or w i 0 ≤ kinds)
      known true q n =
          let (a, b) = and_T (leb 1 (get_or w i 0)) (leb (get_or w i 0) kinds) (true→T (known? kinds (get_or w i 0)) q) in
          (leb→le 1 (get_or w i 0) a, leb→le (get_or w i 0) kinds b)
      known false q n = absurd (n tt)

      go : (o : Option ℕ) → o ≡ none → LowestIs Unknown o → (1 ≤ get_or w i 0) × (get_or w i 0 ≤ kinds)
      go o q (this j x k) = clash (cc)
      go o q (nothing k) = known (known? kinds (get_or w i 0)) refl (λ t. k i (l, t))

-- ---- 1 to 7: the gate of sound bytes refuses as the check does
-- what that gate says, in facts
pub data Checked (s : List ℕ) : Gate → Type 0 where
  refuses : (r : Refusal) → check_of s ≡ Err r → Checked s (shut_by r)
  sound : (r : Rules) (m : Mark) → decode s ≡ got r m → check_of s ≡ Ok tt → Checked s (passed (compile r))

pub sound-gate : (s : List ℕ) → Checked s (sound_gate s)
unfolding sound_gate check_of
sound-gate s = go (decode s) refl
  where
    verdict : (r : Rules) (m : Mark) → decode s ≡ got r m → (v : Verdict) → judge_of (compile r) ≡ v → Checked s (on_verdict (compile r) v)
    verdict r m e (Ok tt) q = sound r m e (rw e q)
    verdict r m e (Err f) q = refuses f (rw e q)

    go : (d : Parsed Rules) → decode s ≡ d → Checked s (on_rules d)
    go (refused f) e = refuses f (rw e)
    go (got r m) e = verdict r m e (judge_of (compile r)) refl

pub judged-sound : (s : List ℕ) (r : Rules) (m : Mark) → decode s ≡ got r m → check_of s ≡ Ok tt → judge_of (compile r) ≡ Ok tt
unfolding check_of
judged-sound s r m e v = rw e at v

-- sound bytes pass
pub sound-passes : (s : List ℕ) (r : Rules) (m : Mark) → decode s ≡ got r m → check_of s ≡ Ok tt → sound_gate s ≡ passed (compile r)
unfolding sound_gate
sound-passes s r m e v = rw (e, judged-sound s r m e v)

-- others are refused as the check refuses them
pub sound-refuses : (s : List ℕ) (r : Refusal) → check_of s ≡ Err r → sound_gate s ≡ shut_by r
sound-refuses s r e = go (sound-gate s)
  where
    go : {x : Gate} → Checked s x → x ≡ shut_by r
    go (refuses f q) = let z : f ≡ r = cc in rw z
    go (sound r' m d q) = clash (cc)

-- ---- 8, 9 and 11
-- what the gate of a note says, in facts
pub data Noted (g : Grammar) (w : List ℕ) (space : ℕ) : Gate → Type 0 where
  eight : max_tokens < length w → Noted g w space (shut 8 0)
  nine : (i : ℕ) → length w ≤ max_tokens → first_unknown g.kinds w ≡ some i → Noted g w space (shut 9 i)
  eleven : length w ≤ max_tokens → Known g.kinds w → space < space_words g.size (length w) → Noted g w space (shut 11 0)
  admitted : length w ≤ max_tokens → Known g.kinds w → space_words g.size (length w) ≤ space → Noted g w space (passed g)

module _ (g : Grammar) (w : List ℕ) (space : ℕ) where
  -- a law for each way through it
  pub note-8 : max_tokens < length w → note_gate g w space ≡ shut 8 0
  unfolding note_gate
  note-8 l = rw (note_gate, lt-ltb max_tokens (length w) l)

  pub note-9 : (i : ℕ) → length w ≤ max_tokens → first_unknown g.kinds w ≡ some i → note_gate g w space ≡ shut 9 i
  unfolding note_gate
  note-9 i l e = rw (note_gate, le-ltb max_tokens (length w) l, e)

  pub note-11 : length w ≤ max_tokens → Known g.kinds w → space < space_words g.size (length w) → note_gate g w space ≡ shut 11 0
  unfolding note_gate
  note-11 l k h = rw (note_gate, le-ltb max_tokens (length w) l, known-none g.kinds w k, lt-ltb space (space_words g.size (length w)) h)

  pub note-passes : length w ≤ max_tokens → Known g.kinds w → space_words g.size (length w) ≤ space → note_gate g w space ≡ passed g
  unfolding note_gate
  note-passes l k h = rw (note_gate, le-ltb max_tokens (length w) l, known-none g.kinds w k, le-ltb space (space_words g.size (length w)) h)

  pub note-gate : Noted g w space (note_gate g w space)
  note-gate = long (ltb max_tokens (length w)) refl
    where
      need : ℕ
      need = space_words g.size (length w)

      short : length w ≤ max_tokens → Known g.kinds w → (x : Bool) → ltb space need ≡ x → Noted g w space (note_gate g w space)
      short l k true e = let h = ltb-true space need e in rw (note-11 l k h) (eleven l k h)
      short l k false e = let h = ltb-false space need e in rw (note-passes l k h) (admitted l k h)

      known : length w ≤ max_tokens → (o : Option ℕ) → first_unknown g.kinds w ≡ o → Noted g w space (note_gate g w space)
      known l (some i) e = rw (note-9 i l e) (nine i l e)
      known l none e = short l (none-known g.kinds w e) (ltb space need) refl

      long : (x : Bool) → ltb max_tokens (length w) ≡ x → Noted g w space (note_gate g w space)
      long true e = let h = ltb-true max_tokens (length w) e in rw (note-8 h) (eight h)
      long false e = known (ltb-false max_tokens (length w) e) (first_unknown g.kinds w) refl

-- ---- the whole gate
module _ (s w : List ℕ) (space : ℕ) where
  pub gate-refuses : (r : Refusal) → check_of s ≡ Err r → gate s w space ≡ shut_by r
  unfolding gate
  gate-refuses r e = rw (sound-refuses s r e)

  pub gate-sound : (r : Rules) (m : Mark) → decode s ≡ got r m → check_of s ≡ Ok tt → gate s w space ≡ note_gate (compile r) w space
  unfolding gate
  gate-sound r m e v = rw (sound-passes s r m e v)

  -- what passes: a sound grammar, a note of at most 128 known tokens, enough working space
  pub record Passes (g : Grammar) : Type 0 where
    pub rules : Rules
    pub mark : Mark
    pub says : decode s ≡ got rules mark
    pub same : compile rules ≡ g
    pub checked : check_of s ≡ Ok tt
    pub short : length w ≤ max_tokens
    pub tokens : Known g.kinds w
    pub roomy : space_words g.size (length w) ≤ space

  pub gate-passes : (g : Grammar) → Passes g → gate s w space ≡ passed g
  gate-passes g h =
      gate-sound h.rules h.mark h.says h.checked ∙ ap (λ (x : Grammar). note_gate x w space) h.same
      ∙ note-passes g w space h.short h.tokens h.roomy

  -- what the whole gate says, in facts
  pub data Gated : Gate → Type 0 where
    refuses : (r : Refusal) → check_of s ≡ Err r → Gated (shut_by r)
    sound : (r : Rules) (m : Mark) {x : Gate} → decode s ≡ got r m → check_of s ≡ Ok tt → Noted (compile r) w space x → Gated x

  pub gated : Gated (gate s w space)
  unfolding gate
  gated = go (sound-gate s)
    where
      go : {x : Gate} → Checked s x → Gated (at_gate shut (λ g. note_gate g w space) x)
      go (Checked.refuses r e) = refuses r e
      go (Checked.sound r m e v) = sound r m e v (note-gate (compile r) w space)

  -- and nothing else passes
  pub passed-means : (g : Grammar) → gate s w space ≡ passed g → Passes g
  passed-means g e = go gated e
    where
      noted : (r : Rules) (m : Mark) {x : Gate} → decode s ≡ got r m → check_of s ≡ Ok tt → Noted (compile r) w space x → x ≡ passed g → Passes g
      noted r m d v (eight l) q = clash (cc)
      noted r m d v (nine i l u) q = clash (cc)
      noted r m d v (eleven l k h) q = clash (cc)
      noted r m d v (admitted l k h) q =
          let z : compile r ≡ g = cc in
          record { rules = r; mark = m; says = d; same = z; checked = v; short = l; tokens = rw z at k; roomy = rw z at h }

      go : {x : Gate} → Gated x → x ≡ passed g → Passes g
      go (refuses r d) q = clash (cc)
      go (sound r m d v n) q = noted r m d v n q

-- ---- the numbers at the gate
-- 1 to 9 and 11
pub record Early (n : ℕ) : Type 0 where
  pub some : 1 ≤ n
  pub before : n ≤ 11
  pub not-10 : ¬ (n ≡ 10)

pub refusal-early : (r : Refusal) → Early (refusal_number r) × (refusal_number r ≤ 7)
refusal-early (Unfinished at) = (record { some = omega arith; before = omega arith; not-10 = λ e. clash (cc) }, omega arith)
refusal-early (Malformed at) = (record { some = omega arith; before = omega arith; not-10 = λ e. clash (cc) }, omega arith)
refusal-early (OverLimit at) = (record { some = omega arith; before = omega arith; not-10 = λ e. clash (cc) }, omega arith)
refusal-early (UnknownSymbol at) = (record { some = omega arith; before = omega arith; not-10 = λ e. clash (cc) }, omega arith)
refusal-early (Trailing at) = (record { some = omega arith; before = omega arith; not-10 = λ e. clash (cc) }, omega arith)
refusal-early (Unproductive at) = (record { some = omega arith; before = omega arith; not-10 = λ e. clash (cc) }, omega arith)
refusal-early (LeftRecursive at) = (record { some = omega arith; before = omega arith; not-10 = λ e. clash (cc) }, omega arith)

pub gate-early : (s w : List ℕ) (space n p : ℕ) → gate s w space ≡ shut n p → Early n
gate-early s w space n p e = go (gated s w space) e
  where
    number : {m q : ℕ} → shut m q ≡ shut n p → Early m → Early n
    number {m} q h = let z : m ≡ n = cc in rw z at h

    noted : {g : Grammar} {x : Gate} → Noted g w space x → x ≡ shut n p → Early n
    noted (eight l) q = number q (record { some = omega arith; before = omega arith; not-10 = λ e. clash (cc) })
    noted (nine i l u) q = number q (record { some = omega arith; before = omega arith; not-10 = λ e. clash (cc) })
    noted (eleven l k h) q = number q (record { some = omega arith; before = omega arith; not-10 = λ e. clash (cc) })
    noted (admitted l k h) q = clash (cc)

    go : {x : Gate} → Gated s w space x → x ≡ shut n p → Early n
    go (Gated.refuses r d) q = number q (refusal-early r).0
    go (Gated.sound r m d v x) q = noted x q
