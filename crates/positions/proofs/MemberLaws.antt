-- A loop over the members of a set, `for m in s.members(from, n)`. What holds at the start of a turn is said of the next member, wherever that one is: so
-- the laws of a turn speak of a member m and of the one that comes next behind it, and none of them knows the iterator.
use mathlib.Core.Path.{◌≡◌, ap, ◌∙◌}
use mathlib.Core.Bool.{true}
use Prim.Native.Nat.{ℕ, ◌+◌, ◌≤◌, ◌<◌}
use Rattle.std.specs.Prelude.{Some}
use Rattle.positions.specs.declared.Members.{Members}
use Rattle.positions.specs.declared.Positions.{Positions}
use Rattle.positions.specs.inside.Positions.{position_count, member, NextOf}
use Rattle.positions.specs.inside.Members.{Walks}

-- the iterator goes through s up to n, and X holds of its next member
pub record Loop (s : Positions) (n : ℕ) (it : Members) (X : ℕ → Type 0) : Type 0 where
  pub set : it.set ≡ s
  pub last : it.last ≡ n
  pub next : (m : ℕ) → NextOf s.words it.at m → X m

module _ {s : Positions} {n : ℕ} where
  -- at the start of the loop
  pub loop-begins : {from : ℕ} {X : ℕ → Type 0} {it : Members} → it ≡ record { set = s; at = from; last = n }
      → ((m : ℕ) → NextOf s.words from m → X m) → Loop s n it X
  loop-begins {from} {X} {it} e f =
      record { set = ap (λ (i : Members). i.set) e; last = ap (λ (i : Members). i.last) e; next = λ m h. f m (rw e at h) }

  module _ {X : ℕ → Type 0} {it : Members} (g : Loop s n it X) where
    -- in a turn
    module _ {m : ℕ} {it' : Members} (w : Walks it (Some m) it') where
      pub turn-next : NextOf s.words it.at m
      turn-next = rw g.set at w.2

      pub turn-holds : X m
      turn-holds = g.next m turn-next

      pub turn-within : m ≤ n
      turn-within = rw g.last at w.1

      pub turn-inside : m < position_count
      turn-inside = w.0

      pub turn-member : member s.words m ≡ true
      turn-member = turn-next.found w.0

      -- at its end
      pub loop_on : {Y : ℕ → Type 0} → ((m' : ℕ) → NextOf s.words (m + 1) m' → Y m') → Loop s n it' Y
      loop_on f = record {
        set = ap (λ (i : Members). i.set) w.3 ∙ g.set;
        last = ap (λ (i : Members). i.last) w.3 ∙ g.last;
        next = λ m' h. f m' (rw w.3 at h);
      }

    -- behind the loop
    pub loop-ends : (it.last < position_count → (m : ℕ) × (it.last < m) × NextOf it.set.words it.at m) → n < position_count
        → (m : ℕ) × (n < m) × X m
    loop-ends w l = let (m, a, h) = w (rw g.last l) in (m, rw g.last at a, g.next m (rw g.set at h))
