-- TYPED LINES: the tokens of a line that was split are at most 128, each from 1 to 100, so that no reading refuses them for their number or for being 0.
use mathlib.Core.Path.{◌≡◌, refl, sym, subst, ap, ◌∙◌}
use mathlib.Core.Bool.{Bool, true, false, not}
use mathlib.Core.List.{List, [], ◌∷◌, ◌++◌}
use mathlib.Core.Logic.{inl, inr}
use mathlib.Core.Option.{Option, some}
use Prim.Native.Nat.{ℕ, zero, suc, ◌-◌, ◌≤◌, ◌<◌}
use native.Mathlib.Omega.{arith}
use lib.Dec.{T, leb}
use lib.ListN.{length, get_or, take, replicate}
use lib.Seq.{take-append_seam}
use borrow.Author.Tests.{le-leb, leb-false}
use Rattle.base.proofs.Booleans.{clash}
use Rattle.base.specs.Lists.{AllOf}
use Rattle.base.specs.Search.{LowestIs, this, nothing}
use Rattle.grammar.specs.Decode.{Rules, Mark, got, decode}
use Rattle.grammar.specs.Grammar.{Grammar, compile}
use Rattle.derivation.specs.Runs.{marked}
use Rattle.derivation.specs.Machine.{plainly, reading}
use Rattle.derivation.specs.Gate.{Gate, shut, passed, at_gate, gate, known?, first_unknown}
use Rattle.derivation.specs.Plain.{Answer, refuse, read_note, plain_reading}
use Rattle.derivation.proofs.GateLaws.{Noted, eight, nine, eleven, admitted, Gated, refuses, sound, gated, Unknown, first-unknown, refusal-early}
use Rattle.words.specs.inside.Standings.{Standing}
use Rattle.words.proofs.StandingLaws.{Stands, short, foreign, begun, stands}
use Rattle.adaptive.specs.Quick.{Reply, reply, quick_note, over_cache, quick_reading}
use Rattle.adaptive.proofs.QuickLaws.{over-12, over-13, over-begun}
use Rattle.splitter.specs.Splitting.{SplitAnswer, split_answer}
use Rattle.splitter.specs.Items.{max_split}
use Rattle.splitter.specs.Contract.{SplitDid}
use Rattle.splitter.specs.Cutting.{KnownKind}
use Rattle.splitter.specs.Splits.{Splits, long-line, bad-list, foreign-byte, long-note, short_row, split}
use Rattle.splitter.proofs.KindLaws.{kinds-known}
use Rattle.splitter.proofs.SplitsLaws.{split-iff}
use Rattle.demands.specs.Demand1.{Came}
use Rattle.demands.specs.Typed.{TokensPass, Admissible, Typed}
use Rattle.demands.proofs.Demand1Laws.{came}

-- ---- a gate that is shut
abbrev number_of : Gate → ℕ
number_of (shut n p) = n
number_of (passed g) = 0

abbrev place_of : Gate → ℕ
place_of (shut n p) = p
place_of (passed g) = 0

known_at : (w : List ℕ) → AllOf KnownKind w → (i : ℕ) → i < length w → KnownKind (get_or w i 0)
known_at [] h i l = absurd (omega arith)
known_at (k ∷ w) (x, h) zero l = x
known_at (k ∷ w) (x, h) (suc i) l = known_at w h i (omega arith)

at_most : (w : List ℕ) → AllOf KnownKind w → (i : ℕ) → get_or w i 0 ≤ 100
at_most [] h i = omega arith
at_most (k ∷ w) (x, h) zero = x.1
at_most (k ∷ w) (x, h) (suc i) = at_most w h i

-- a reading that came to the note, or to its cache
late : (bytes w : List ℕ) (n p : ℕ) → ¬ (n ≡ 8) → ¬ (n ≡ 9) → TokensPass bytes w n p
late bytes w n p a b = record { no-8 = a; only-9 = λ r m d e. absurd (b e); no_9 = λ r m d t. b }

came-late : (bytes w : List ℕ) (n p : ℕ) → Came n → TokensPass bytes w n p
came-late bytes w n p (inl e) = late bytes w n p (λ q. (omega arith)) (λ q. (omega arith))
came-late bytes w n p (inr (inl e)) = late bytes w n p (λ q. (omega arith)) (λ q. (omega arith))
came-late bytes w n p (inr (inr e)) = late bytes w n p (λ q. (omega arith)) (λ q. (omega arith))

module _ (w : List ℕ) (few : length w ≤ max_split) (known : AllOf KnownKind w) where
  -- ---- 8
  not-8 : (g : Grammar) (space : ℕ) {x : Gate} → Noted g w space x → ¬ (number_of x ≡ 8)
  not-8 g space (eight l) e = omega arith
  not-8 g space (nine i l u) e = omega arith
  not-8 g space (eleven l k h) e = omega arith
  not-8 g space (admitted l k h) e = omega arith

  gate-8 : (bytes : List ℕ) (space : ℕ) {x : Gate} → Gated bytes w space x → ¬ (number_of x ≡ 8)
  gate-8 bytes space (refuses r v) e = let h = (refusal-early r).1 in omega arith
  gate-8 bytes space (sound r m d v n) e = not-8 (compile r) space n e

  -- ---- 9
  above : (kinds i : ℕ) → first_unknown kinds w ≡ some i → kinds < get_or w i 0
  above kinds i e = go (first_unknown kinds w) e (first-unknown kinds w)
    where
      go : (o : Option ℕ) → o ≡ some i → LowestIs (Unknown kinds w) o → kinds < get_or w i 0
      go o q (this j (l, t) k) = let z : j ≡ i = cc in rw (← z) (over j l t (leb (get_or w j 0) kinds) refl)
        where
          over : (j : ℕ) → j < length w → T (not (known? kinds (get_or w j 0))) → (x : Bool) → leb (get_or w j 0) kinds ≡ x → kinds < get_or w j 0
          over j l t false e = leb-false (get_or w j 0) kinds e
          over j l t true e = absurd (rw (le-leb 1 (get_or w j 0) (known_at w known j l).0, e) at t)
      go o q (nothing k) = clash (cc)

  nine-above : (g : Grammar) (space i : ℕ) {x : Gate} → Noted g w space x → number_of x ≡ 9 → place_of x ≡ i → g.kinds < get_or w i 0
  nine-above g space i (eight l) e q = absurd (omega arith)
  nine-above g space i (nine j l u) e q = rw (← q) (above g.kinds j u)
  nine-above g space i (eleven l k h) e q = absurd (omega arith)
  nine-above g space i (admitted l k h) e q = absurd (omega arith)

  gate-9 : (bytes : List ℕ) (r : Rules) (m : Mark) → decode bytes ≡ got r m → (space i : ℕ) {x : Gate} → Gated bytes w space x → number_of x ≡ 9
      → place_of x ≡ i
      → r.kinds < get_or w i 0
  unfolding compile
  gate-9 bytes r m d space i (refuses f v) e q = absurd (let h = (refusal-early f).1 in omega arith)
  gate-9 bytes r m d space i (sound r' m' d' v n) e q = let z : r' ≡ r = cc in rw (← z) (nine-above (compile r') space i n e q)

  -- what the gate answers of these tokens
  gate-pass : (bytes : List ℕ) (space n p : ℕ) → gate bytes w space ≡ shut n p → TokensPass bytes w n p
  gate-pass bytes space n p e = record {
    no-8 = λ q. gate-8 bytes space (gated bytes w space) (ap number_of e ∙ q);
    only-9 = above-9;
    no_9 = λ r m d t q. let h = above-9 r m d q in let a = at_most w known p in omega arith;
  }
    where
      above-9 : (r : Rules) (m : Mark) → decode bytes ≡ got r m → n ≡ 9 → r.kinds < get_or w p 0
      above-9 r m d q = gate-9 bytes r m d space p (gated bytes w space) (ap number_of e ∙ q) (ap place_of e)

  -- ---- the readings
  abbrev Passes : List ℕ → Answer → Type 0
  Passes bytes x = TokensPass bytes w x.number x.place

  plain-pass : (bytes row : List ℕ) (space : ℕ) → Passes bytes (plain_reading bytes w row space)
  unfolding plain_reading read_note
  plain-pass bytes row space = go (gate bytes w space) refl
    where
      go : (x : Gate) → gate bytes w space ≡ x → Passes bytes (at_gate (λ n p. refuse n p row) (λ g. read_note g w row) x)
      go (shut n p) e = gate-pass bytes space n p e
      go (passed g) e = came-late bytes w _ _ (came g w row (reading g (marked w) (plainly g (marked w)) (length row) tt).outcome).0

  over-pass : (bytes : List ℕ) (g : Grammar) (row c : List ℕ) → Passes bytes (over_cache bytes g w row c).answer
  over-pass bytes g row c = go (stands bytes c)
    where
      go : {x : Standing} → Stands bytes c x → Passes bytes (over_cache bytes g w row c).answer
      go (short l) = rw (over-12 bytes g w row c l) (late bytes w 12 0 (λ e. (omega arith)) (λ e. (omega arith)))
      go (foreign l q) = rw (over-13 bytes g w row c l q) (late bytes w 13 0 (λ e. (omega arith)) (λ e. (omega arith)))
      go (begun l t) =
          rw (over-begun bytes g w row c l t) (came-late bytes w _ _ (came g w row (quick_note g w (length row) c).outcome).0)

  quick-pass : (bytes row : List ℕ) (space : ℕ) (c : List ℕ) → Passes bytes (quick_reading bytes w row space c).answer
  unfolding quick_reading
  quick-pass bytes row space c = go (gate bytes w space) refl
    where
      go : (x : Gate) → gate bytes w space ≡ x → Passes bytes (at_gate (λ n p. reply (refuse n p row) c) (λ g. over_cache bytes g w row c) x).answer
      go (shut n p) e = gate-pass bytes space n p e
      go (passed g) e = over-pass bytes g row c

  kinds-admissible : Admissible w
  kinds-admissible = record {
    plain = λ bytes row space n p k row' d. subst (Passes bytes) (sym d) (plain-pass bytes row space);
    quick = λ bytes row space c n p k row' c' d. subst (λ (x : Reply). Passes bytes x.answer) (sym d) (quick-pass bytes row space c);
  }

-- the tokens of an accepted line
tokens-admissible : (line list row : List ℕ) (place count : ℕ) (row' : List ℕ) → SplitDid line list row 0 place count row' → Admissible (take count row')
tokens-admissible line list row place count row' d = go ((split-iff line list row 0 place count row').0 d) refl
  where
    go : {x : SplitAnswer} → Splits line list row x → x ≡ split_answer 0 place count row' → Admissible (take count row')
    go (long-line l) e = absurd (omega (arith, ap (λ (x : SplitAnswer). x.number) e))
    go (bad-list l n) e = absurd (omega (arith, ap (λ (x : SplitAnswer). x.number) e))
    go (foreign-byte ws at a x) e = absurd (omega (arith, ap (λ (x : SplitAnswer). x.number) e))
    go (long-note ws us a c m) e = absurd (omega (arith, ap (λ (x : SplitAnswer). x.number) e))
    go (short_row ws us a c m l) e = absurd (omega (arith, ap (λ (x : SplitAnswer). x.number) e))
    go (split ws us ks a c h m l) e =
        let n : length ks ≡ count = ap (λ (x : SplitAnswer). x.count) e in
        let q : ks ++ replicate (length row - length ks) 0 ≡ row' = ap (λ (x : SplitAnswer). x.row) e in
        let t : take count row' ≡ ks = rw (← n, ← q) (take-append_seam ks (replicate (length row - length ks) 0)) in
        rw t (kinds-admissible ks m (kinds-known a.is-list.few h))

pub typed : Typed
typed = record { split = split-iff; read = tokens-admissible }
