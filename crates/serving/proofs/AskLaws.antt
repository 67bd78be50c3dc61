-- The way down: into each set the positions at which it can be asked.
use mathlib.Core.Path.{◌≡◌, ap, ◌∙◌}
use mathlib.Core.Logic.{inl, inr}
use mathlib.Core.List.{List}
use Prim.Native.Nat.{ℕ, suc, ◌+◌, ◌-◌, ◌*◌, ◌≤◌, ◌<◌}
use native.Mathlib.Omega.{arith}
use lib.Dec.{T}
use lib.ListN.{length}
use Rattle.base.proofs.Bits.{same?}
use Rattle.base.proofs.Booleans.{T-or-r}
use Rattle.positions.specs.inside.Positions.{position_count, member}
use Rattle.positions.specs.inside.Words.{put_at}
use Rattle.derivation.specs.inside.Frames.{frame_words}
use Rattle.cells.specs.inside.Chart.{cells_end, cell_has}
use Rattle.cells.specs.inside.Through.{through_of}
use Rattle.cells.specs.inside.Through.{Onward}
use Rattle.cells.proofs.ThroughLaws.{through-in}
use Rattle.machine.specs.inside.Frames.{frame_has}
use Rattle.serving.specs.inside.Sets.{return_at, SetsOnly, Framed, AskedDown}
use Rattle.serving.proofs.RestLaws.{rest_put, rest-other, only_none, only-put, only-has}

module _ (P n base d : ℕ) (start ws : List ℕ) where
  -- the sets from k on are asked, and s is what the one below is asked
  pub record Asking (k : ℕ) (us s : List ℕ) : Type 0 where
    pub asked : AskedDown P n base k d start ws us
    pub first : k ≡ d → (m : ℕ) → m < position_count → T (member start m) → T (member s m)
    pub next : k < d → (m j : ℕ) → m ≤ n → j < position_count → T (frame_has us base k m) → T (cell_has P ws (return_at ws base k) m j)
        → T (member s j)

  pub asking-begins : Asking d ws start
  asking-begins =
      record {
        asked = record { kept = only_none; top = λ k m a b c x. absurd (omega arith); under = λ k m j a b c e x y. absurd (omega arith) };
        first = λ q m l x. x;
        next = λ l m j a b x y. absurd (omega arith);
      }

  -- s is put as the set of frame k, and r is where the frame returns to from there
  module _ (k : ℕ) (us s r : List ℕ) (x : Asking (suc k) us s) (l : k < d) (room : base + frame_words * d ≤ length us) (short : n < position_count)
      (e : base ≡ cells_end P n) (inside : return_at ws base k < P) where
    abbrev vs : List ℕ
    vs = put_at us (base + frame_words * k + 1) s

    here : (m : ℕ) → m < position_count → frame_has vs base k m ≡ member s m
    here m h = rest_put us base k s m (omega arith) h

    kept : SetsOnly base k d ws vs
    kept = only-put k s (omega arith) (omega arith) (omega arith) l x.asked.kept

    asking-on : {q : ℕ} (b : List ℕ) → q ≡ return_at vs base k → Onward P vs n s b 0 q r → Asking k (put_at us (base + frame_words * k + 1) s) r
    unfolding Onward
    asking-on {q} b c onward =
        record {
          asked = record {
            kept = kept;
            top = λ j m a z h y. elim (same? j k) [
              | inl u ↦ rw u (rw (here m h) (x.first (omega arith) m h y))
              | inr u ↦ rw (rest-other us base k s j m u h) (x.asked.top j m (omega arith) z h y)
            ];
            under = λ j m o a z h v y f. elim (same? j k) [
              | inl u ↦ let y' : T (frame_has us base (suc j) m) = rw (rest-other us base k s (suc j) m (λ g. omega arith) (omega arith)) at y in
                  rw u (rw (here o v) (x.next (omega arith) m o h v (rw u at y') (rw u at f)))
              | inr u ↦ let y' : T (frame_has us base (suc j) m) = rw (rest-other us base k s (suc j) m (λ g. omega arith) (omega arith)) at y in
                  rw (rest-other us base k s j o u v) (x.asked.under j m o (omega arith) z h v y' f)
            ];
          };
          first = λ z m h y. absurd (omega arith);
          next = λ z m j h v y f.
              let g : cell_has P vs q m j ≡ cell_has P ws (return_at ws base k) m j
              = ap (λ (q : ℕ). cell_has P vs q m j) (c ∙ kept.places k) ∙ only-has kept P n e (return_at ws base k) m inside h j v in
              rw (onward j v)
              (T-or-r (member b j) (through_of (member s) (cell_has P vs) q j 0 n)
              (through-in (member s) (cell_has P vs) q j 0 n m (omega arith) h (rw (here m (omega arith)) at y) (rw g f)));
        }

  -- as the code has it: k counts down to `known`
  module _ (known k : ℕ) (us s : List ℕ) {vs : List ℕ} {q : ℕ} (f : Framed P n base known d ws) (x : Asking k us s) (l : known < k) (m : k ≤ d)
      (z : vs ≡ put_at us (base + frame_words * (k - 1) + 1) s) (c : q ≡ return_at vs base (k - 1)) where
    pub asking-place : q < P
    asking-place =
        let kept : SetsOnly base (k - 1) d ws vs = rw z (only-put (k - 1) s (omega arith) (omega arith) (omega arith) (omega arith) x.asked.kept) in
        rw (c, kept.places (k - 1)) (f.returns (k - 1) (omega arith) (omega arith))

    pub asking-more : (b r : List ℕ) → Onward P vs n s b 0 q r → Asking (k - 1) vs r
    asking-more b r onward =
        let y : suc (k - 1) ≡ k = omega arith in
        rw z (asking-on (k - 1) us s r (rw y x) (omega arith) (omega (arith, x.asked.kept.long, f.room)) (omega (arith, f.lent.short)) f.begins
        (f.returns (k - 1) (omega arith) (omega arith)) b (rw z at c) (rw z at onward))

  pub asking-ends : (k known : ℕ) {us s : List ℕ} → Asking k us s → k ≡ known → AskedDown P n base known d start ws us
  asking-ends k known x e = rw e at x.asked
