-- The way up: of each set the positions from which its frame can end in the set below.
use mathlib.Core.Path.{◌≡◌, sym, ap, ◌∙◌}
use mathlib.Core.Logic.{inl, inr}
use mathlib.Core.Bool.{◌&&◌}
use mathlib.Core.List.{List}
use Prim.Native.Nat.{ℕ, suc, ◌+◌, ◌-◌, ◌*◌, ◌≤◌, ◌<◌}
use native.Mathlib.Omega.{arith}
use native.Mathlib.Numerals.{add-one}
use lib.ListN.{length}
use Rattle.base.proofs.Bits.{same?}
use Rattle.positions.specs.inside.Positions.{position_count, member, meets_of}
use Rattle.positions.specs.inside.Words.{set_at, put_at}
use Rattle.positions.proofs.WordLaws.{member-set}
use Rattle.derivation.specs.inside.Frames.{frame_words}
use Rattle.cells.specs.inside.Chart.{spot, cells_end}
use Rattle.machine.specs.inside.Frames.{frame_has}
use Rattle.machine.specs.inside.Choice.{Leading}
use Rattle.serving.specs.inside.Sets.{return_at, Framed, ServedUp}
use Rattle.serving.proofs.RestLaws.{rest_put, rest-other, rest_below, only_none, only-put, only-cell, only_high}

module _ (P n base known : ℕ) (ws : List ℕ) (e : base ≡ cells_end P n) (short : n < position_count) where
  -- the next set: k is not the lowest frame
  module _ (k : ℕ) (us : List ℕ) (x : ServedUp P n base known (suc k) ws us) (l : known ≤ suc k) (room : base + frame_words * suc (suc k) ≤ length us)
      (inside : return_at ws base (suc k) < P) {ends rest : List ℕ} {q : ℕ} (r : List ℕ)
      (a : ends ≡ set_at us (base + frame_words * suc k + 1)) (c : q ≡ return_at us base (suc k)) (b : rest ≡ set_at us (base + frame_words * k + 1))
      (leading : Leading P us n ends q rest r) where
    abbrev vs : List ℕ
    vs = put_at us (base + frame_words * suc k + 1) r

    asked : (m : ℕ) → m ≤ n → member ends m ≡ frame_has ws base (suc k) m
    unfolding frame_has
    asked m h = ap (λ (s : List ℕ). member s m) a
        ∙ (member-set us (base + frame_words * suc k + 1) m (omega arith) ∙ only_high x.kept (suc k) m (omega arith) (omega arith))

    cell : (m : ℕ) → m ≤ n → set_at us (spot P q m) ≡ set_at ws (spot P (return_at ws base (suc k)) m)
    cell m h = ap (λ (q : ℕ). set_at us (spot P q m)) (c ∙ x.kept.places (suc k)) ∙ only-cell x.kept P n e (return_at ws base (suc k)) m inside h

    new : (m : ℕ) → m ≤ n
        → frame_has vs base (suc k) m ≡ (frame_has ws base (suc k) m && meets_of (set_at ws (spot P (return_at ws base (suc k)) m))
        (set_at vs (base + frame_words * k + 1)))
    unfolding Leading
    new m h =
        rest_put us base (suc k) r m room (omega arith)
        ∙ (leading m h ∙ rw (asked m h, cell m h, b ∙ sym (rest_below us base (suc k) r k (omega arith))))

    serving-on : ServedUp P n base known (suc (suc k)) ws (put_at us (base + frame_words * suc k + 1) r)
    serving-on =
        record {
          kept = only-put (suc k) r (omega arith) (omega arith) l (omega arith) x.kept;
          sets = λ j m o h v. elim (same? j k) [
            | inl u ↦ rw u (new m v)
            | inr u ↦ rest-other us base (suc k) r (suc j) m (λ g. omega arith) (omega arith)
                ∙ rw (rest_below us base (suc k) r j (omega arith)) (x.sets j m o (omega arith) v)
          ];
        }

-- as the code has it: k counts up from `known` to d
pub serving-begins : (P n base known : ℕ) (ws : List ℕ) → ServedUp P n base known known ws ws
serving-begins P n base known ws = record { kept = only_none; sets = λ j m a b c. absurd (omega arith) }

module _ (P n base known d : ℕ) (ws : List ℕ) (f : Framed P n base known d ws) (k : ℕ) (us : List ℕ) (x : ServedUp P n base known k ws us)
    (l : known ≤ k) (m : k < d)
    {q : ℕ} (c : q ≡ return_at us base k) where
  pub serving-place : q < P
  serving-place = rw (c, x.kept.places k) (f.returns k l m)

  pub serving-more : {ends rest : List ℕ} (r : List ℕ) {vs : List ℕ} → ends ≡ set_at us (base + frame_words * k + 1) → rest
      ≡ set_at us (base + frame_words * (k - 1) + 1)
      → Leading P us n ends q rest r → vs ≡ put_at us (base + frame_words * k + 1) r → ServedUp P n base known (k + 1) ws vs
  serving-more r a b leading z =
      let s = f.some in
      let y : suc (k - 1) ≡ k = omega arith in
      let o : base + frame_words * suc k ≤ length us = omega (arith, x.kept.long, f.room) in
      rw (z, add-one k)
      (rw y at (serving-on P n base known ws f.begins (omega (arith, f.lent.short)) (k - 1) us (rw y x) (rw y l) (rw y o) (rw y (f.returns k l m)) r
      (rw y a) (rw y c) b leading))

pub serving-ends : (P n base known k d : ℕ) {ws us : List ℕ} → ServedUp P n base known k ws us → k ≡ d → ServedUp P n base known d ws us
serving-ends P n base known k d x e = rw e at x
