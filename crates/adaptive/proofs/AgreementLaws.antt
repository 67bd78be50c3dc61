-- Every list of quick readings by one sound grammar over coherent words agrees with the plain readings beside it.
use mathlib.Core.Path.{◌≡◌, refl, sym, subst, ap, ◌∙◌}
use mathlib.Core.Logic.{◌⊎◌, inl, inr}
use mathlib.Core.List.Memᴰ
use mathlib.Core.List.{List, [], ◌∷◌}
use Prim.Native.Nat.{ℕ, ◌≤◌}
use lib.ListN.{length}
use Rattle.std.specs.Prelude.{Ok}
use Rattle.base.proofs.Booleans.{clash}
use Rattle.grammar.specs.Decode.{Rules, Mark, got, decode}
use Rattle.grammar.specs.Grammar.{Grammar, compile, Limited}
use Rattle.grammar.specs.inside.Ordered.{Ordered}
use Rattle.grammar.proofs.OrderedLaws.{compile-ordered}
use Rattle.reader.proofs.ReadLaws.{decode-limited}
use Rattle.soundness.specs.Check.{check_of}
use Rattle.derivation.specs.Space.{max_tokens, space_words}
use Rattle.derivation.specs.Gate.{Gate, passed, at_gate, note_gate}
use Rattle.derivation.specs.Plain.{Answer, refuse, read_note, plain_reading}
use Rattle.derivation.specs.Demand2.{Known}
use Rattle.derivation.proofs.GateLaws.{Noted, eight, nine, eleven, admitted, note-gate, note-passes, gate-sound}
use Rattle.lookahead.specs.Configs.{In}
use Rattle.words.specs.Layout.{min_words}
use Rattle.words.specs.Begin.{BegunFor}
use Rattle.cache.specs.Coherent.{Coherent, Extends}
use Rattle.cache.proofs.SuitLaws.{Suits, decode-suits}
use Rattle.words.specs.inside.Standings.{Standing, standing_of}
use Rattle.words.proofs.StandingLaws.{Stands, short, foreign, begun, stands}
use Rattle.cache.proofs.ExtendLaws.{standing-extends, extends-refl, extends-trans}
use Rattle.adaptive.specs.Quick.{Reply, reply, quick_note, over_cache, quick_reading}
use Rattle.adaptive.specs.Calls.{Call, quick, plain, in_turn, last_words}
use Rattle.adaptive.specs.Teaching.{Teaches, TeachesAll, next}
use Rattle.adaptive.specs.inside.Agreement.{taught, Agrees, AllAgree, Agreement}
use Rattle.adaptive.proofs.QuickLaws.{over-12, over-13, over-begun, quick-answer, quick-grows, quick-again}
use Rattle.adaptive.proofs.TeachLaws.{teaches-iff, note-extends}

-- ---- one reading
module _ (s : List ℕ) (r : Rules) (m : Mark) (e : decode s ≡ got r m) (v : check_of s ≡ Ok tt) where
  abbrev g : Grammar
  g = compile r

  ordered : Ordered (compile r)
  ordered = compile-ordered r (decode-limited s r m e)

  limits : Limited r
  limits = decode-limited s r m e

  suits : Suits (compile r) s
  suits = decode-suits s r m e

  -- what the gate of a call's note says
  abbrev gate_of : Call → Gate
  gate_of k = note_gate g k.note k.space

  -- both readings behind it
  abbrev quick_at : List ℕ → Call → Gate → Reply
  quick_at c k x = at_gate (λ n p. reply (refuse n p k.row) c) (λ g. over_cache s g k.note k.row c) x

  abbrev plain_at : Call → Gate → Answer
  plain_at k x = at_gate (λ n p. refuse n p k.row) (λ g. read_note g k.note k.row) x

  quick-sound : (c : List ℕ) (k : Call) → quick s c k ≡ quick_at c k (gate_of k)
  unfolding quick_reading
  quick-sound c k = rw (gate-sound s k.note k.space r m e v)

  plain-sound : (k : Call) → plain s k ≡ plain_at k (gate_of k)
  unfolding plain_reading
  plain-sound k = rw (gate-sound s k.note k.space r m e v)

  -- what is read over coherent words: the note, or nothing
  abbrev taught_at : List ℕ → Call → Gate → List ℕ
  taught_at c k x = at_gate (λ n p. c) (λ g. (quick_note g k.note (length k.row) c).state) x

  read_answer : (c : List ℕ) (k : Call) → Coherent g s c → {x : Gate} → Noted g k.note k.space x → (quick_at c k x).answer ≡ plain_at k x
  read_answer c k h (eight l) = refl
  read_answer c k h (nine i l u) = refl
  read_answer c k h (eleven l t w) = refl
  read_answer c k h (admitted l t w) =
      ap (λ (x : Reply). x.answer) (over-begun s g k.note k.row c h.long h.begun-for)
      ∙ quick-answer g s suits ordered k.note t k.row c h

  -- over any words that 12 and 13 let pass
  read-words : (c : List ℕ) (k : Call) → min_words ≤ length c → BegunFor s c → {x : Gate} → Noted g k.note k.space x
      → (quick_at c k x).words ≡ taught_at c k x
  read-words c k b h (eight l) = refl
  read-words c k b h (nine i l u) = refl
  read-words c k b h (eleven l t w) = refl
  read-words c k b h (admitted l t w) = ap (λ (x : Reply). x.words) (over-begun s g k.note k.row c b h)

  -- ---- the words after a reading
  -- the call's note passes the gate
  abbrev pub Passes : Call → Type 0
  Passes k = note_gate (compile r) k.note k.space ≡ passed (compile r)

  -- a call that passed left its marks in c: it was read over some coherent words, and c has only grown since
  pub record Remembers (c : List ℕ) (j : Call) : Type 0 where
    pub words : List ℕ
    pub coherent : Coherent (compile r) s words
    pub extends : Extends (compile r) (quick_note (compile r) j.note (length j.row) words).state c

  pub record After (c : List ℕ) (k : Call) (d : List ℕ) : Type 0 where
    pub coherent : Coherent (compile r) s d
    pub extends : Extends (compile r) c d
    pub remembers : Passes k → Remembers d k

  -- nothing was added
  unread : (c : List ℕ) (k : Call) → Coherent g s c → ¬ Passes k → After c k c
  unread c k h n = record { coherent = h; extends = extends-refl g c; remembers = λ q. absurd (n q) }

  after : (c : List ℕ) (k : Call) → Coherent g s c → (x : Gate) → gate_of k ≡ x → Noted g k.note k.space x → After c k (taught_at c k x)
  after c k h x a (eight l) = unread c k h (λ q. clash (cc))
  after c k h x a (nine i l u) = unread c k h (λ q. clash (cc))
  after c k h x a (eleven l t w) = unread c k h (λ q. clash (cc))
  after c k h x a (admitted l t w) =
      let y = quick-grows g s suits ordered k.note t (length k.row) c h in
      record { coherent = y.holds; extends = y.grown; remembers = λ _. record { words = c; coherent = h; extends = extends-refl g _ } }

  -- the same note, enough working space and a row of the same length: nothing new
  repeated : (c : List ℕ) (j k : Call) → Coherent g s c → (Passes j → Remembers c j) → j.note ≡ k.note
      → space_words g.size (length j.note) ≤ j.space → length j.row ≡ length k.row → {x : Gate} → Noted g k.note k.space x
      → taught_at c k x ≡ c
  repeated c j k h z n p q (eight l) = refl
  repeated c j k h z n p q (nine i l u) = refl
  repeated c j k h z n p q (eleven l t w) = refl
  repeated c j k h z n p q (admitted l t w) =
      let few : length j.note ≤ max_tokens = rw n l in
      let tokens : Known g.kinds j.note = rw n t in
      let y = z (note-passes g j.note j.space few tokens p) in
      let same-note = subst (λ (i : List ℕ). Extends g (quick_note g i (length j.row) y.words).state c) n y.extends in
      let same_row = subst (λ (i : ℕ). Extends g (quick_note g k.note i y.words).state c) q same-note in
      quick-again g s suits ordered k.note t (length k.row) y.words c y.coherent h same_row

  left : (c : List ℕ) (k : Call) → min_words ≤ length c → BegunFor s c → (quick s c k).words ≡ taught g c k
  unfolding taught
  left c k b h = ap (λ (x : Reply). x.words) (quick-sound c k) ∙ read-words c k b h (note-gate g k.note k.space)

  -- A QUICK READING TEACHES what the learning rules give, whatever words the cache holds that 12 and 13 let pass
  pub quick-teaches : (c : List ℕ) (k : Call) → min_words ≤ length c → BegunFor s c → Teaches (compile r) c k (quick s c k).words
  quick-teaches c k b h = (teaches-iff r limits c k (quick s c k).words).1 (left c k b h)

  -- and every earlier record is kept, whatever words there are
  pub quick-extends : (c : List ℕ) (k : Call) → Extends (compile r) c (quick s c k).words
  quick-extends c k = rw (quick-sound c k) (go (note-gate g k.note k.space))
    where
      over : (w : List ℕ) → Known g.kinds w → {x : Standing} → Stands s c x → Extends g c (over_cache s g w k.row c).words
      over w t (short l) = rw (over-12 s g w k.row c l) (extends-refl g c)
      over w t (foreign l e) = rw (over-13 s g w k.row c l e) (extends-refl g c)
      over w t (begun l b) = rw (over-begun s g w k.row c l b) (note-extends r limits w (length k.row) c t)

      go : {x : Gate} → Noted g k.note k.space x → Extends g c (quick_at c k x).words
      go (eight l) = extends-refl g c
      go (nine i l u) = extends-refl g c
      go (eleven l t w) = extends-refl g c
      go (admitted l t w) = over k.note t (stands s c)

  -- and the cache stands to the grammar as it did
  pub quick-stands : (c : List ℕ) (k : Call) → standing_of s (quick s c k).words ≡ standing_of s c
  quick-stands c k = standing-extends g s suits.packed (quick-extends c k)

  -- A QUICK READING KEEPS coherent words coherent, and only adds to them
  pub quick-keeps : (c : List ℕ) (k : Call) → Coherent (compile r) s c → After c k (quick s c k).words
  unfolding taught
  quick-keeps c k h = rw (left c k h.long h.begun-for) (after c k h (gate_of k) refl (note-gate g k.note k.space))

  agrees : (c : List ℕ) (earlier : List Call) (k : Call) → Coherent g s c → ((j : Call) → In j earlier → Passes j → Remembers c j)
      → Agrees s g c earlier k
  unfolding taught
  agrees c earlier k h z = record {
    answer = ap (λ (x : Reply). x.answer) (quick-sound c k) ∙ read_answer c k h (note-gate g k.note k.space) ∙ sym (plain-sound k);
    learned = quick-teaches c k h.long h.begun-for;
    nothing-new = λ j i n p q. left c k h.long h.begun-for ∙ repeated c j k h (z j i) n p q (note-gate g k.note k.space);
  }

  -- ---- the list
  all-agree : (ks earlier : List Call) (c : List ℕ) → Coherent g s c → ((j : Call) → In j earlier → Passes j → Remembers c j)
      → AllAgree s g c earlier ks
  all-agree [] earlier c h z = tt
  all-agree (k ∷ ks) earlier c h z =
      (agrees c earlier k h z, all-agree ks (k ∷ earlier) (quick s c k).words now.coherent (λ j i t. held j (Memᴰ.cases_cons i) t))
    where
      now : After c k (quick s c k).words
      now = quick-keeps c k h

      held : (j : Call) → (j ≡ k) ⊎ In j earlier → Passes j → Remembers (quick s c k).words j
      held j (inl q) t = rw q (now.remembers (rw q at t))
      held j (inr i) t = let x = z j i t in record { words = x.words; coherent = x.coherent; extends = extends-trans g _ _ _ x.extends now.extends }

  all-taught : (ks : List Call) (c : List ℕ) → Coherent g s c → TeachesAll g c ks (last_words c (in_turn (quick s) c ks))
  unfolding in_turn last_words
  all-taught [] c h = TeachesAll.none
  all-taught (k ∷ ks) c h =
      next (quick-teaches c k h.long h.begun-for) (all-taught ks (quick s c k).words (quick-keeps c k h).coherent)

  -- from any coherent words
  pub agreement : (c : List ℕ) (ks : List Call) → Coherent (compile r) s c → Agreement s (compile r) c ks
  agreement c ks h = record { each = all-agree ks [] c h (λ j i. absurd (Memᴰ.not-nil i)); words = all-taught ks c h }
