-- What passes at one position after another find is what a note reaches.
use mathlib.Core.Path.{◌≡◌}
use mathlib.Core.Logic.{⊎_elim}
use mathlib.Core.Bool.{Bool, false}
use mathlib.Core.Option.{some}
use mathlib.Core.List.{List}
use Prim.Native.Nat.{ℕ, ◌+◌, ◌*◌, ◌/◌, ◌%◌, ◌≤◌, ◌<◌}
use native.Mathlib.Omega.{arith}
use native.Mathlib.Decide.{dec_lt}
use lib.Dec.{T}
use lib.ListN.{length, replicate, get_or-replicate}
use Rattle.base.proofs.Bits.{test-none}
use Rattle.base.proofs.Booleans.{clash, same, false→¬T}
use Rattle.grammar.specs.Grammar.{first}
use Rattle.grammar.specs.inside.Tables.{grammar_in}
use Rattle.positions.specs.inside.Positions.{position_count, set_words, member}
use Rattle.positions.specs.inside.Words.{member_at}
use Rattle.derivation.specs.inside.Ready.{Ready}
use Rattle.derivation.specs.inside.Reach.{Reach}
use Rattle.derivation.specs.ReachRounds.{arrives?}
use Rattle.derivation.proofs.ReachLaws.{reach-in}
use Rattle.derivation.proofs.ReadyLaws.{ready-first, ready-next, ready-size}
use Rattle.derivation.proofs.WrongPlace.{arrives-iff}
use Rattle.reach.specs.inside.Sets.{sets_words, PointInside, stands, Added, Occupied}
use Rattle.reach.specs.inside.Passes.{Opening, Leads, match, call, return, Sound, Closed, PassesDone}
use Rattle.reach.proofs.PassLaws.{leads-inside}

-- all that can be reached before position i is found, and all that it leads to
pub record FoundTo (t w : List ℕ) (i : ℕ) (ws : List ℕ) : Type 0 where
  pub sound : Sound (grammar_in t) w ws
  pub starts : (b f : ℕ) → first (grammar_in t) 0 b ≡ some f → T (stands ws f 0)
  pub closed : (j : ℕ) → j < i → Closed (grammar_in t) w (grammar_in t).size j ws

-- ---- at first nobody stands anywhere
nobody-stands : (n p j : ℕ) → n ≡ sets_words → PointInside p j → stands (replicate n 0) p j ≡ false
unfolding stands member_at
nobody-stands n p j e (l, m) = rw (get_or-replicate {A = ℕ} n (set_words * p + j / 32) 0 0 (omega arith)) (test-none (j % 32))

module _ (t w : List ℕ) (ready : Ready t) (short : length w < position_count) where
  pub found-begin : (n : ℕ) {r : Bool} {ws : List ℕ} → n ≡ sets_words → Added (Opening (grammar_in t) 0 0) r (replicate n 0) ws → FoundTo t w 0 ws
  found-begin n {r} {ws} e h =
      record {
        sound = λ p j o s. ⊎_elim (λ v. absurd (false→¬T (stands (replicate n 0) p j) (nobody-stands n p j e o) v)) (λ v. from p j v) (h.only p j o s);
        starts = λ b f d. h.held f 0 (omega (arith, ready-first t ready 0 b f d, ready-size t ready), omega arith) (b, d, omega arith);
        closed = λ j l p q k y s x. absurd (omega arith);
      }
    where
      from : (p j : ℕ) → Opening (grammar_in t) 0 0 p j → Reach (grammar_in t) w p j
      from p j (b, d, z) = rw z (Reach.start b d)

  -- passes at i leave what was closed before i closed: they add nothing there
  pub found-next : (i : ℕ) {ws after : List ℕ} → i ≤ length w → FoundTo t w i ws → PassesDone t w i ws after → FoundTo t w (i + 1) after
  found-next i {ws} {after} l h k =
      record {
        sound = k.sets.sound h.sound;
        starts = λ b f d. k.sets.kept f 0 (omega (arith, ready-first t ready 0 b f d, ready-size t ready), omega arith) (h.starts b f d);
        closed = λ j n. at j n (dec_lt j i);
      }
    where
      at : (j : ℕ) → j < i + 1 → Dec (j < i) → Closed (grammar_in t) w (grammar_in t).size j after
      at j z (yes y) =
          λ p q n o s x. k.sets.kept q n (leads-inside t w ready short o (omega arith) x)
          (h.closed j y p q n o (k.sets.early p j (omega (arith, ready-size t ready), omega arith) y s) x)
      at j u (no y) = let z : j ≡ i = omega arith in rw z k.closed

  -- ---- complete
  pub reach-place : {p i : ℕ} → Reach (grammar_in t) w p i → p < (grammar_in t).size
  reach-place (Reach.start {f = f} b e) = ready-first t ready 0 b f e
  reach-place (Reach.match {p = p} x e d a) = ready-next t ready p (reach-place x) (λ z. clash (cc))
  reach-place (Reach.call {a = a} {f = f} b x e d) = ready-first t ready a b f d
  reach-place (Reach.return {p = p} b x e d y) = ready-next t ready p (reach-place x) (λ z. clash (cc))

  module _ (i : ℕ) {ws : List ℕ} (past : length w < i) (h : FoundTo t w i ws) where
    on : {p k q j : ℕ} → Reach (grammar_in t) w p k → T (stands ws p k) → Leads (grammar_in t) w p k q j → T (stands ws q j)
    on {p} {k} {q} {j} x s y = let l = reach-in x in h.closed k (omega arith) p q j (reach-place x) s y

    found : {p k : ℕ} → Reach (grammar_in t) w p k → T (stands ws p k)
    found (Reach.start {f = f} b e) = h.starts b f e
    found (Reach.match x e d a) = on x (found x) (match e d a)
    found (Reach.call b x e d) = on x (found x) (call b e d)
    found (Reach.return b x e d y) = on x (found x) (return b e d y)

    -- the positions at which a reader can stand somewhere are those at which something arrives
    pub found_all : (all : List ℕ) {m : ℕ} → m ≡ (grammar_in t).size → Occupied ws m all → (k : ℕ) → k ≤ length w → member all k
        ≡ arrives? (grammar_in t) w k
    unfolding Occupied
    found_all all {m} z y k l =
        same (member all k) (arrives? (grammar_in t) w k) (λ u. to ((y k (omega arith)).0 u)) (λ u. from ((arrives-iff (grammar_in t) w k).0 u))
      where
        to : (p : ℕ) × (p < m) × T (stands ws p k) → T (arrives? (grammar_in t) w k)
        to (p, u, s) = (arrives-iff (grammar_in t) w k).1 (p, h.sound p k (omega (arith, ready-size t ready), omega arith) s)

        from : (p : ℕ) × Reach (grammar_in t) w p k → T (member all k)
        from (p, x) = (y k (omega arith)).1 (p, omega (arith, reach-place x), found x)
