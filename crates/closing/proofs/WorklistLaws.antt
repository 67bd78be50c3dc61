-- The code's ways back, through the moves of a member, and through the worklist.
use mathlib.Core.Path.{◌≡◌, refl, sym, ap, ◌∙◌}
use mathlib.Core.Bool.{cond}
use mathlib.Core.Option.{Option, none, some}
use mathlib.Core.List.{List, [], ◌∷◌, map, map-append}
use Prim.Native.Nat.{ℕ, zero, suc, ◌+◌, ◌-◌, ◌≤◌, ◌<◌}
use native.Mathlib.Numerals.{add-one}
use native.Mathlib.Omega.{arith}
use lib.Dec.{eqb}
use lib.ListN.{length, get_elem?}
use borrow.Author.Tests.{eq-eqb, ne_eqb}
use Rattle.base.proofs.Lists.{get-below}
use Rattle.grammar.specs.declared.Symbol.{Symbol}
use Rattle.grammar.specs.declared.Symbol.TheVariants.{Token, Nonterminal, End}
use Rattle.grammar.specs.declared.Place.{Place}
use Rattle.grammar.specs.Limits.{end_place}
use Rattle.grammar.specs.Grammar.{Grammar, place_at, owner}
use Rattle.grammar.specs.inside.Tables.{grammar_in}
use Rattle.closing.proofs.FollowLaws.{owner-small}
use Rattle.configurations.proofs.FacingLaws.{place-faces}
use Rattle.derivation.specs.inside.Ready.{Ready}
use Rattle.derivation.proofs.ReadyLaws.{ready-size, ready_call}
use Rattle.std.specs.Prelude.{Some, None}
use Rattle.lookahead.specs.Configs.{Config, config, behind_from, follows, entered, returned, moves_at, moves}
use Rattle.lookahead.specs.Closing.{max_members, add, add_all, close_from}
use Rattle.configurations.specs.declared.config.Packed.{Packed}
use Rattle.configurations.specs.inside.Packed.{config_of, packed_at, Pops}
use Rattle.closing.specs.inside.Moving.{Movable, BeforeCall, Unknown}
use Rattle.configurations.specs.inside.Held.{Added, config_at, configs_from, Room, Grows}
use Rattle.configurations.proofs.HeldLaws.{length-held, get-held, said_at, exact-at}
use Rattle.configurations.proofs.GrowSteps.{then, grow-room, grow-count, then-on, then-stop, add_all-none, add_all-one, add_all-append}

-- ---- back
empty-stack : (s : List ℕ) {n : ℕ} → n ≡ length s → n ≡ 0 → s ≡ []
empty-stack [] e z = refl
empty-stack (x ∷ s) e z = absurd (omega arith)

-- with no entries the caller is unknown
pub unknown-is : (t : List ℕ) (c : Packed) {n a : ℕ} → n ≡ length (config_of c).stack → n ≡ 0 → a ≡ owner (grammar_in t) (config_of c).place
    → Unknown c a
unknown-is t c e z own = record { empty = empty-stack (config_of c).stack e z; small = owner-small t (config_of c).place own }

module _ (g : Grammar) (c : Config) (ms : List Config) where
  -- over a return place
  pop-is : (d : Config) → c.stack ≡ d.place ∷ d.stack → d.alternative ≡ c.alternative → add ms d ≡ add_all ms (returned g c c.stack)
  unfolding returned
  pop-is d e f =
      let q : returned g c c.stack ≡ d ∷ [] = rw e (λ i. config d.place (sym f i) d.stack ∷ []) in
      sym (ap (add_all ms) q ∙ add_all-one ms d)

  -- where the start symbol may return to besides
  unfoldable ends : ℕ → List Config
  ends a = map (λ (q : ℕ). config q c.alternative []) (cond (eqb a 0) (end_place ∷ []) [])

  module _ {a : ℕ} (empty : c.stack ≡ []) (own : a ≡ owner g c.place) where
    back-empty : then (add_all ms (map (λ (q : ℕ). config q c.alternative []) (behind_from a 0 g.places))) (λ m. add_all m (ends a))
        ≡ add_all ms (returned g c c.stack)
    unfolding returned follows ends
    back-empty =
        rw (empty, ← own)
        (sym (ap (add_all ms) (map-append (λ (q : ℕ). config q c.alternative []) (behind_from a 0 g.places) (cond (eqb a 0) (end_place ∷ []) []))
        ∙ add_all-append (map (λ (q : ℕ). config q c.alternative []) (behind_from a 0 g.places)) (ends a) ms))

    module _ {r : Added} {ws : List ℕ} (A : Grows r ws (add_all ms (map (λ (q : ℕ). config q c.alternative []) (behind_from a 0 g.places)))) where
      pub back_full : r ≡ None → {ws' : List ℕ} → Grows None ws' (add_all ms (returned g c c.stack))
      back_full e = then-stop A (λ m. add_all m (ends a)) back-empty e

      module _ (k : ℕ) (e : r ≡ Some k) where
        pub back_start : a ≡ 0 → {d : Config} → d ≡ config end_place c.alternative c.stack → add (configs_from ws 0 k) d
            ≡ add_all ms (returned g c c.stack)
        unfolding ends
        back_start z q =
            let w : ends a ≡ config end_place c.alternative [] ∷ [] = rw (eq-eqb a 0 z) in
            ap (add (configs_from ws 0 k)) (q ∙ ap (config end_place c.alternative) empty)
            ∙ sym (add_all-one (configs_from ws 0 k) (config end_place c.alternative []))
            ∙ ap (add_all (configs_from ws 0 k)) (sym w) ∙ then-on A (λ m. add_all m (ends a)) back-empty k e

        pub back-other : (a ≡ 0 → ⊥) → Grows (Some k) ws (add_all ms (returned g c c.stack))
        unfolding ends
        back-other n =
            let w : ends a ≡ [] = rw (ne_eqb a 0 n) in
            grow-count ws k (grow-room A k e)
            (sym (add_all-none (configs_from ws 0 k)) ∙ ap (add_all (configs_from ws 0 k)) (sym w) ∙ then-on A (λ m. add_all m (ends a)) back-empty k e)

pub back_pop : (g : Grammar) (ms : List Config) {c d : Packed} → Pops c d → add ms (config_of d) ≡ add_all ms (returned g (config_of c) (config_of c).stack)
back_pop g ms {c} {d} p = pop-is g (config_of c) ms (config_of d) p.stack p.alternative

-- ---- the moves of a member, by what its place faces
module _ (g : Grammar) (c : Config) {p : ℕ} {x : Place} (at : p ≡ c.place) (is : x ≡ place_at g p) where
  moves-at : (s : Symbol) → x.symbol ≡ s → moves g c ≡ moves_at g c s
  unfolding moves
  moves-at s e = ap (moves_at g c) (place-faces g c.place at is s e)

  pub at-token : (ws : List ℕ) (n k : ℕ) → Room ws n → x.symbol ≡ Token k → Grows (Some n) ws (add_all (configs_from ws 0 n) (moves g c))
  unfolding moves_at
  at-token ws n k room e = grow-count ws n room (sym (add_all-none (configs_from ws 0 n)) ∙ ap (add_all (configs_from ws 0 n)) (sym (moves-at (Token k) e)))

  pub at_call : (a : ℕ) (ms : List Config) → x.symbol ≡ Nonterminal a → add_all ms (entered g c a) ≡ add_all ms (moves g c)
  unfolding moves_at
  at_call a ms e = ap (add_all ms) (sym (moves-at (Nonterminal a) e))

  pub at-end : (ms : List Config) → x.symbol ≡ End → add_all ms (returned g c c.stack) ≡ add_all ms (moves g c)
  unfolding moves_at
  at-end ms e = ap (add_all ms) (sym (moves-at End e))

-- a place before a nonterminal has one behind it, and the nonterminal has productions in the tables
pub at_called : (t : List ℕ) (ready : Ready t) (c : Packed) {p : ℕ} {x : Place} → p ≡ (config_of c).place → x ≡ place_at (grammar_in t) p
    → (a : ℕ) → x.symbol ≡ Nonterminal a → BeforeCall t c a
at_called t ready c at is a e =
    let f = place-faces (grammar_in t) (config_of c).place at is (Nonterminal a) e in
    record { before = omega (arith, ready-size t ready, ready_call t ready (config_of c).place a f); named = ready.fits.named (config_of c).place a f }

-- ---- the worklist
module _ (g : Grammar) where
  close-none : (k n : ℕ) (ms : List Config) → length ms ≤ k → close_from g n k ms ≡ some ms
  unfolding close_from
  close-none k zero ms h = refl
  close-none k (suc n) ms h = go (get_elem? ms k) refl
    where
      go : (o : Option Config) → get_elem? ms k ≡ o
          → (elim o as (λ _. Option (List Config)) [
            | none ↦ some ms
            | some c ↦ elim (add_all ms (moves g c)) as (λ _. Option (List Config))
                [ none ↦ none | some ms' ↦ close_from g n (suc k) ms' ]
          ]) ≡ some ms
      go none e = refl
      go (some c) e = absurd (omega (arith, get-below ms k e))

  close-some : (k n : ℕ) (ms : List Config) (c : Config) → get_elem? ms k ≡ some c → close_from g (suc n) k ms
      ≡ then (add_all ms (moves g c)) (λ m. close_from g n (suc k) m)
  unfolding close_from
  close-some k n ms c e = rw (e, close_from) (go (add_all ms (moves g c)))
    where
      go : (o : Option (List Config)) → (elim o as (λ _. Option (List Config)) [ none ↦ none | some m ↦ close_from g n (suc k) m ])
          ≡ then o (λ m. close_from g n (suc k) m)
      go none = refl
      go (some m) = refl

  module _ (ws : List ℕ) (k n : ℕ) {end : Option (List Config)} (h : close_from g (max_members - k) k (configs_from ws 0 n) ≡ end) where
    module _ (l : k < n) (few : n ≤ max_members) {c : Packed} (is : c ≡ packed_at ws k)
        {r : Added} {ws' : List ℕ} (A : Grows r ws' (add_all (configs_from ws 0 n) (moves g (config_of c)))) where
      opened : then (add_all (configs_from ws 0 n) (moves g (config_of c))) (λ m. close_from g (max_members - (k + 1)) (k + 1) m) ≡ end
      opened =
          let z : max_members - k ≡ suc (max_members - suc k) = omega arith in
          let y : 0 + k ≡ k = omega arith in
          let q : get_elem? (configs_from ws 0 n) k ≡ some (config_of c) = get-held ws 0 n k l ∙ ap some (ap (config_at ws) y ∙ sym (said_at ws k is)) in
          rw add-one (sym (ap (λ (f : ℕ). close_from g f k (configs_from ws 0 n)) z
          ∙ close-some k (max_members - suc k) (configs_from ws 0 n) (config_of c) q) ∙ h)

      pub close-on : (m : ℕ) → r ≡ Some m → close_from g (max_members - (k + 1)) (k + 1) (configs_from ws' 0 m) ≡ end
      close-on m u = then-on A (λ m. close_from g (max_members - (k + 1)) (k + 1) m) opened m u

      pub close-stop : r ≡ None → {ws'' : List ℕ} → Grows None ws'' end
      close-stop u = then-stop A (λ m. close_from g (max_members - (k + 1)) (k + 1) m) opened u

    pub close-end : n ≤ k → Room ws n → Grows (Some n) ws end
    close-end l room = grow-count ws n room (sym (close-none k (max_members - k) (configs_from ws 0 n) (omega (arith, length-held ws 0 n))) ∙ h)

-- the next member may move
pub next-movable : {t ws : List ℕ} {n k : ℕ} → Ready t → Room ws n → k < n → {c : Packed} → c ≡ packed_at ws k → Movable t ws n c
next-movable {k = k} ready room l is = record { ready = ready; room = room; exact = exact-at room k l is }
