-- Where a nonterminal waits: there is room for a frame; an alternative that is taken without a set leaves the frames as it is entered; and how the plain
-- choice is asked, with all sets right.
use mathlib.Core.Path.{◌≡◌, refl, sym, ap, subst, ◌∙◌}
use mathlib.Core.Option.{some}
use mathlib.Core.List.{List, [], ◌∷◌}
use Prim.Native.Nat.{ℕ, zero, suc, ◌+◌, ◌-◌, ◌*◌, ◌≤◌, ◌<◌, min}
use native.Mathlib.Omega.{arith}
use lib.ListN.{length, set, length-set}
use lib.Seq.{get_or-set_same}
use Rattle.base.proofs.Booleans.{clash}
use Rattle.grammar.specs.Limits.{end_place}
use Rattle.grammar.specs.Grammar.{first}
use Rattle.grammar.specs.inside.Tables.{grammar_in, nonterminals_in}
use Rattle.derivation.specs.Runs.{marked}
use Rattle.derivation.specs.Machine.{lowest}
use Rattle.derivation.specs.inside.Frames.{frame_words, returns_of, Pushed}
use Rattle.derivation.proofs.CountLaws.{one-at-least, first-within}
use Rattle.derivation.specs.inside.Entries.{Open}
use Rattle.derivation.proofs.FrameWords.{pushed-returns}
use Rattle.derivation.proofs.ReadyLaws.{ready_call}
use Rattle.cells.specs.inside.Chart.{Charted, Filled}
use Rattle.cells.proofs.Spots.{lent-kept}
use Rattle.machine.specs.inside.Frames.{EveryFrame, FramesBelow}
use Rattle.machine.specs.inside.Choice.{or_zero}
use Rattle.machine.specs.inside.Space.{ground}
use Rattle.machine.specs.inside.Waits.{Waits, begins, called, Calling, Called}
use Rattle.machine.specs.declared.steps.At.{At}
use Rattle.machine.specs.declared.steps.Space.{Space}
use Rattle.machine.proofs.PushLaws.{put-below}
use Rattle.machine.proofs.WaitLaws.{waits-fewer, waits-position, waits-named, waits-first, waits-frames, waits-room, waits-held, waits-good}
use Rattle.serving.specs.inside.Sets.{Standing, Tabled, SetsSettled}
use Rattle.serving.proofs.FloorLaws.{held-floored}
use Rattle.serving.specs.inside.Serving.{Waiting, Entering, Found}

-- alternative 0 has no first place
pub named_some : (t : List ℕ) (a : ℕ) {f r : ℕ} → first (grammar_in t) a r ≡ some f → r ≡ 0 → ⊥
named_some t a e z = clash (cc)

module _ (t w ws : List ℕ) {s : Space} {known : ℕ} {at : At} {a : ℕ} (x : Waiting t w ws s known at a) where
  abbrev d : ℕ
  d = at.depth

  abbrev q : ℕ
  q = at.place

  abbrev i : ℕ
  i = at.position

  pub waiting-named : a < nonterminals_in t
  waiting-named = waits-named t x.ready w x.waits

  -- there is a first alternative
  pub one : (f : ℕ) × (first (grammar_in t) a 1 ≡ some f)
  one = first-within t x.ready a waiting-named 1 (omega arith) (one-at-least t x.ready a waiting-named)

  -- and room for a frame
  pub waiting-room : {base : ℕ} → base ≡ ground t w → base + frame_words * suc at.depth ≤ length ws
  waiting-room z = omega (arith, waits-room t x.ready w x.lent x.waits 1 one.1)

  -- ---- an alternative is taken without a set: its frame is a return place alone
  module _ {base : ℕ} (z : base ≡ ground t w) {after : List ℕ} (put : after ≡ set ws (base + frame_words * at.depth) at.place) {known' : ℕ}
      (fewer : known' ≡ min known at.depth) where
    pushed : Pushed ws after (ground t w) d q
    pushed =
        record {
          top = rw (put, z) (get_or-set_same ws (ground t w + frame_words * d) q 0 (omega (arith, waiting-room refl)));
          rest = λ j l m. put-below ws d q z put j m;
        }

    pub taken-entering : (b : ℕ) → Entering t w ws after (FramesBelow known') d q a i b
    taken-entering b =
        let waits = waits-fewer (FramesBelow known) (FramesBelow known') (λ k l m. omega arith) x.waits in
        record {
          kept = ap length put ∙ length-set ws (base + frame_words * d) q;
          returns = λ n. pushed-returns ws after (ground t w) d q pushed;
          held = λ f e. waits-held t x.ready w after b f e pushed x.waits;
          good = λ f e. waits-good t x.ready w after b f e pushed x.lent (λ k. absurd (omega arith)) waits;
        }

  -- ---- how it is asked: mid are the words before it, with the same return places
  module _ {mid : List ℕ} (kept : length mid ≡ length ws) (charted : Charted t w mid)
      (same : returns_of mid (ground t w) at.depth ≡ returns_of ws (ground t w) at.depth)
      (waits : Waits t w mid EveryFrame at.depth at.place a at.position) where
    asks : Calling t w mid s at a
    asks = record { ready = x.ready; spaced = x.spaced; lent = lent-kept kept x.lent; charted = charted; waits = waits }

    finds : {after : List ℕ} {r : ℕ} → Called t w mid after d q a i r → Found t w ws after d q a i r
    finds {after} {r} y =
        record {
          chosen = y.chosen ∙ ap (λ (S : List ℕ). or_zero (lowest (grammar_in t) (marked w) (q ∷ S) a i)) same;
          charted = y.charted;
          entering = record {
            kept = y.kept ∙ kept;
            returns = λ n. pushed-returns mid after (ground t w) d q (y.pushed n) ∙ ap (λ (S : List ℕ). q ∷ S) same;
            held = λ f e. waits-held t x.ready w after r f e (y.pushed (named_some t a e)) waits;
            good = λ f e. waits-good t x.ready w after r f e (y.pushed (named_some t a e)) (lent-kept kept x.lent) (λ _ m. y.sets f m e) waits;
          };
        }

  -- before the first frame: the cells are filled
  module _ (z : at.depth ≡ 0) {us : List ℕ} (f : Filled t w ws us) where
    first-same : returns_of us (ground t w) d ≡ returns_of ws (ground t w) d
    unfolding returns_of
    first-same = rw z refl

    first-waits : Waits t w us EveryFrame d q a i
    first-waits = let (y, u, v) = waits-first t x.ready w x.waits z in begins z y u v

    pub first-asks : Calling t w us s at a
    first-asks = asks f.kept f.charted first-same first-waits

    pub first_finds : {after : List ℕ} {r : ℕ} → Called t w us after at.depth at.place a at.position r
        → Found t w ws after at.depth at.place a at.position r
    first_finds = finds f.kept f.charted first-same first-waits

  -- over frames: they are settled from the place that calls, the one before the return place
  module _ (n : at.depth ≡ 0 → ⊥) where
    pub over-place : 1 ≤ at.place
    over-place = go x.waits
      where
        go : Waits t w ws (FramesBelow known) d q a i → 1 ≤ q
        go (begins z y u v) = absurd (n z)
        go (called p y e held good) = omega arith

    pub over-standing : Standing t w ws known at.depth (at.place - 1) at.position
    over-standing = go x.waits
      where
        go : Waits t w ws (FramesBelow known) d q a i → Standing t w ws known d (q - 1) i
        go (begins z y u v) = absurd (n z)
        go (called p y e held good) =
            let z : q - 1 ≡ p = omega arith in
            record {
              lent = x.lent;
              room = omega (arith, waits-frames t x.ready w x.lent x.waits);
              floored = held-floored t x.ready ws (ground t w) held e;
              place = rw z (ready_call t x.ready p a e);
              position = waits-position t x.ready w x.waits;
              charted = x.charted;
              good = rw z good;
            }

    module _ {us vs : List ℕ} {r : ℕ} (y : Tabled t w ws us at.depth (at.place - 1) at.position r)
        (z : SetsSettled t w us vs r at.depth (at.place - 1) at.position) where
      table_same : (k : ℕ) → returns_of us (ground t w) k ≡ returns_of ws (ground t w) k
      unfolding returns_of
      table_same zero = refl
      table_same (suc k) = let e = y.returns k in let q = table_same k in cc

      over-same : returns_of vs (ground t w) d ≡ returns_of ws (ground t w) d
      over-same = z.returns ∙ table_same d

      over-waits : Waits t w vs EveryFrame d q a i
      over-waits = go x.waits
        where
          go : Waits t w ws (FramesBelow known) d q a i → Waits t w vs EveryFrame d q a i
          go (begins z y u v) = absurd (n z)
          go (called p u e held good) =
              let m : q - 1 ≡ p = omega arith in
              called p u e (subst (λ (S : List ℕ). Open (grammar_in t) (end_place ∷ []) (length w) (p ∷ S) i) (sym over-same) held) (rw m at z.good)

      pub over-asks : Calling t w vs s at a
      over-asks = asks (z.kept.long ∙ y.kept) z.charted over-same over-waits

      pub over-finds : {after : List ℕ} {b : ℕ} → Called t w vs after at.depth at.place a at.position b
          → Found t w ws after at.depth at.place a at.position b
      over-finds = finds (z.kept.long ∙ y.kept) z.charted over-same over-waits
