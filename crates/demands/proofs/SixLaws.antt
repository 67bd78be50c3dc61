-- The six states of G1, by computing the readings: notes whose derivations have two entries need room for two, however long the row is.
use mathlib.Core.Path.{◌≡◌, refl, ap, ◌∙◌}
use mathlib.Core.Option.{none}
use mathlib.Core.List.{List, [], ◌∷◌}
use Prim.Native.Nat.{ℕ, zero, suc, ◌+◌, ◌*◌, ◌≤◌}
use native.Mathlib.Omega.{arith}
use lib.ListN.{length}
use Rattle.std.specs.Prelude.{Ok}
use Rattle.grammar.specs.Limits.{end_place}
use Rattle.grammar.specs.Decode.{mark}
use Rattle.grammar.specs.Grammar.{Grammar, compile}
use Rattle.soundness.specs.Check.{check_of}
use Rattle.derivation.specs.Space.{max_tokens, space_words}
use Rattle.derivation.specs.Runs.{marked}
use Rattle.derivation.specs.Machine.{accepted, Ended, run_call, reading}
use Rattle.derivation.specs.Gate.{passed, gate, first_unknown}
use Rattle.derivation.specs.Cases.{g1, g1_rules}
use Rattle.derivation.proofs.GateLaws.{gate-passes, none-known}
use Rattle.derivation.proofs.MachineFuel.{call-longer}
use Rattle.derivation.proofs.StarredCases.{g1-rules}
use Rattle.words.specs.Layout.{slots}
use Rattle.words.specs.Words.{held}
use Rattle.words.specs.Begin.{begin_words}
use Rattle.cache.specs.Coherent.{Coherent}
use Rattle.cache.proofs.SuitLaws.{decode-suits}
use Rattle.cache.proofs.BeginLaws.{begun-coherent}
use Rattle.cache.specs.Predict.{predict}
use Rattle.adaptive.specs.Chooser.{guided, adaptively}
use Rattle.adaptive.specs.Quick.{Reply, quick_note, quick_reading}
use Rattle.adaptive.specs.Calls.{Call, quick}
use Rattle.demands.specs.SixStates.{six_long, note12, note122, SixStates}
use Rattle.adaptive.proofs.QuickLaws.{over-begun}
use Rattle.adaptive.proofs.AgreementLaws.{quick-keeps}

abbrev g : Grammar
g = compile g1_rules

sound : check_of g1 ≡ Ok tt
unfolding check_of
sound = refl

-- ---- a call whose note is read
-- it passes the gate
opens : (w : List ℕ) (space : ℕ) → length w ≤ max_tokens → first_unknown 2 w ≡ none → space_words 10 (length w) ≤ space → gate g1 w space ≡ passed g
unfolding compile
opens w space l u s = gate-passes g1 w space g (record {
  rules = g1_rules;
  mark = mark 14 10;
  says = g1-rules;
  same = refl;
  checked = sound;
  short = l;
  tokens = none-known 2 w u;
  roomy = s;
})

-- and leaves what the machine leaves
leaves : (c : List ℕ) (k : Call) → Coherent g g1 c → gate g1 k.note k.space ≡ passed g
    → (quick g1 c k).words ≡ (quick_note g k.note (length k.row) c).state
unfolding quick_reading
leaves c k h e = rw e (ap (λ (x : Reply). x.words) (over-begun g1 g k.note k.row c h.long h.begun-for))

-- ---- so many steps of the machine
abbrev steps : ℕ → List ℕ → ℕ → List ℕ → Ended (List ℕ)
steps k w room c = run_call g (marked w) (adaptively g (marked w)) k (end_place ∷ []) 0 0 room c

-- those of a reading, if fewer accept
in-steps : (k : ℕ) (w : List ℕ) (room : ℕ) (c r : List ℕ) → k ≤ suc (2 * room + length (marked w)) → (steps k w room c).outcome ≡ accepted r
    → (quick_note g w room c).state ≡ (steps k w room c).state
unfolding quick_note reading
in-steps k w room c r l e =
    ap (λ (x : Ended (List ℕ)). x.state)
    (call-longer g (marked w) (adaptively g (marked w)) k (suc (2 * room + length (marked w))) (end_place ∷ []) 0 0 room c r l e)

-- ---- the two notes, computed
abbrev one : ℕ → List ℕ
one n = (steps 8 note12 (suc (suc n)) (begin_words g1 six_long)).state

accepts-one : (n : ℕ) → (steps 8 note12 (suc (suc n)) (begin_words g1 six_long)).outcome ≡ accepted (1 ∷ 2 ∷ [])
unfolding run_call guided compile predict begin_words
accepts-one n = refl

holds-one : (n : ℕ) → held (one n) ≡ 6
unfolding run_call guided compile predict begin_words held
holds-one n = refl

accepts-both : (n m : ℕ) → (steps 9 note122 (suc (suc m)) (one n)).outcome ≡ accepted (2 ∷ 2 ∷ [])
unfolding run_call guided compile predict begin_words
accepts-both n m = refl

holds-both : (n m : ℕ) → held (steps 9 note122 (suc (suc m)) (one n)).state ≡ 6
unfolding run_call guided compile predict begin_words held
holds-both n m = refl

-- two or more
above : (k : ℕ) → 2 ≤ k → (n : ℕ) × (k ≡ suc (suc n))
above zero h = absurd (omega arith)
above (suc zero) h = absurd (omega arith)
above (suc (suc n)) h = (n, refl)

module _ (j k : Call) (first : j.note ≡ note12) (second : k.note ≡ note122) (rows : (2 ≤ length j.row) × (2 ≤ length k.row))
    (spaces : (space_words 10 2 ≤ j.space) × (space_words 10 3 ≤ k.space)) where
  abbrev begun : List ℕ
  begun = begin_words g1 six_long

  begun-right : Coherent g g1 begun
  begun-right = begun-coherent g g1 (decode-suits g1 g1_rules (mark 14 10) g1-rules) six_long (omega arith)

  later-right : Coherent g g1 (quick g1 begun j).words
  later-right = (quick-keeps g1 g1_rules (mark 14 10) g1-rules sound begun j begun-right).coherent

  -- the words after the first
  after_first : (n : ℕ) → length j.row ≡ suc (suc n) → (quick g1 begun j).words ≡ one n
  unfolding first_unknown
  after_first n e =
      leaves begun j begun-right (rw first (opens note12 j.space (omega arith) refl spaces.0))
      ∙ rw (first, e) (in-steps 8 note12 (suc (suc n)) begun (1 ∷ 2 ∷ []) (omega arith) (accepts-one n))

  -- and after the second
  after-second : (n m : ℕ) → length j.row ≡ suc (suc n) → length k.row ≡ suc (suc m)
      → (quick g1 (quick g1 begun j).words k).words ≡ (steps 9 note122 (suc (suc m)) (one n)).state
  unfolding first_unknown
  after-second n m d e =
      leaves (quick g1 begun j).words k later-right (rw second (opens note122 k.space (omega arith) refl spaces.1))
      ∙ rw (second, e) (ap (λ (c : List ℕ). (quick_note g note122 (suc (suc m)) c).state) (after_first n d))
      ∙ in-steps 9 note122 (suc (suc m)) (one n) (2 ∷ 2 ∷ []) (omega arith) (accepts-both n m)

  -- SIX STATES after 1 2, and six still after 1 2 2
  pub six-states : SixStates j k
  unfolding slots
  six-states =
      let (n, d) = above (length j.row) rows.0 in
      let (m, e) = above (length k.row) rows.1 in
      record {
        six-slots = refl;
        after_one = ap (λ (c : List ℕ). held c) (after_first n d) ∙ holds-one n;
        after_both = ap (λ (c : List ℕ). held c) (after-second n m d e) ∙ holds-both n m;
      }
