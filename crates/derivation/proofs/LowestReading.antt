-- The machine under the plain chooser follows the chosen derivation: what it accepts is that derivation, and where it is full that derivation has no room.
use mathlib.Core.Path.{◌≡◌, refl, sym, ◌∙◌}
use mathlib.Core.Option.{Option, some}
use mathlib.Core.List.{List, [], ◌∷◌, ◌++◌}
use Prim.Native.Nat.{ℕ, zero, suc, ◌≤◌, ◌<◌, suc-le-suc}
use native.Mathlib.Omega.{arith}
use lib.ListN.{length, drop}
use lib.Seq.{drop-length}
use Rattle.base.specs.Search.{LowestIs, this, nothing}
use Rattle.base.proofs.Booleans.{clash}
use Rattle.base.proofs.Lists.{get-below}
use Rattle.grammar.specs.declared.Symbol.{Symbol}
use Rattle.grammar.specs.Grammar.{Grammar, suffix, production, of_places}
use Rattle.grammar.specs.Derivation.{Derives}
use Rattle.grammar.proofs.GrammarLaws.{suffix-is, production-is, production-from}
use Rattle.derivation.specs.inside.BigSteps.{spells}
use Rattle.derivation.specs.Machine.{lowest, plainly, accepted, full, Action, Ended, step, follow_step, run}
use Rattle.derivation.specs.Runs.{Serves}
use Rattle.derivation.specs.Chosen.{Chosen}
use Rattle.derivation.proofs.Notes.{drop-of-get}
use Rattle.derivation.proofs.RunLaws.{run→leftmost, leftmost→run}
use Rattle.derivation.proofs.MachineLaws.{Seen, ended, halted, crammed, popped, matched, picked, see, prefix-accepted, prefix-full}
use Rattle.derivation.proofs.LowestLaws.{lowest-serves}
use Rattle.derivation.proofs.ChosenLaws.{NoneLower, chosen→leftmost, chosen-token, chosen-call, same-lowest}

module _ (g : Grammar) (w : List ℕ) where
  -- an alternative that serves, as the textbook has it: with what the stack spells it derives the rest
  pub serves→derives : (S : List ℕ) (a i b : ℕ) {γ : List Symbol} → production g a b ≡ some γ → Serves g w S a i b
      → Derives (of_places g) (γ ++ spells g S) (drop i w)
  unfolding spells
  serves→derives S a i b {γ} e (f, d, (r, x)) =
      let h : some (suffix g f) ≡ some γ = sym (production-is g a b d) ∙ e in
      let z : suffix g f ≡ γ = cc in
      (r, rw z at (run→leftmost x refl))

  pub derives→serves : (S : List ℕ) (a i b : ℕ) {γ : List Symbol} → i ≤ length w → production g a b ≡ some γ
      → Derives (of_places g) (γ ++ spells g S) (drop i w) → Serves g w S a i b
  unfolding spells
  derives→serves S a i b l e (r, x) =
      let (f, d, q) = production-from g a b e in
      (f, d, (r, leftmost→run x (f ∷ S) i (rw q) refl l))

  -- what the plain chooser names
  pub record Named (S : List ℕ) (a i b : ℕ) : Type 0 where
    pub serves : Serves g w S a i b
    pub least : (c : ℕ) → Serves g w S a i c → b ≤ c

  pub named : (S : List ℕ) (a i : ℕ) {b : ℕ} → lowest g w S a i ≡ some b → Named S a i b
  named S a i {b} e = go (lowest g w S a i) e (lowest-serves g w S a i)
    where
      go : (o : Option ℕ) → o ≡ some b → LowestIs (Serves g w S a i) o → Named S a i b
      go o q (this c x h) = let z : c ≡ b = cc in record { serves = rw z at x; least = rw z at h }
      go o q (nothing h) = clash (cc)

  none-lower : (S : List ℕ) (a i b : ℕ) → i ≤ length w → Named S a i b → NoneLower (of_places g) a b (spells g S) (drop i w)
  none-lower S a i b l n c γ h e x = let k = n.least c (derives→serves S a i c l e x) in omega arith

  -- the plain machine, from here on
  abbrev pub plain_run : ℕ → List ℕ → ℕ → ℕ → Unit {0} → Ended (Unit {0})
  plain_run k S i room c = run g w (plainly g w) k S i room c

  abbrev Next : List ℕ → ℕ → ℕ → Action → Type 0
  Next S i room x = Seen g w (lowest g w) S i room x

  -- ---- what is accepted is chosen
  abbrev Follows : ℕ → Type 0
  Follows k = (S : List ℕ) (i room : ℕ) (c : Unit {0}) (r : List ℕ) → i ≤ length w → (plain_run k S i room c).outcome ≡ accepted r
      → Chosen (of_places g) (spells g S) r (drop i w)

  follow-step : (k : ℕ) → Follows k → (S : List ℕ) (i room : ℕ) (c : Unit {0}) (r : List ℕ) → i ≤ length w → (x : Action) → Next S i room x
      → (follow_step (plain_run k) i room x c).outcome ≡ accepted r → Chosen (of_places g) (spells g S) r (drop i w)
  unfolding spells
  follow-step k rec S i room c r l x (ended e) q = let z : [] ≡ r = cc in rw (← z, e, drop-length) Chosen.done
  follow-step k rec S i room c r l x (halted n) q = clash (cc)
  follow-step k rec S i room c r l x (crammed e) q = clash (cc)
  follow-step k rec S i room c r l x (popped {p = p} {i = i₀} {room = room₀} {S = S'} e) q = rw (suffix-is g p, e) (rec S' i₀ room₀ c r l q)
  follow-step k rec S i room c r l x (matched {p = p} {i = i₀} {room = room₀} {S = S'} e f t) q =
      rw (suffix-is g p, e, drop-of-get w i₀ f) (Chosen.match t (rec (suc p ∷ S') (suc i₀) room₀ c r (get-below w i₀ f) q))
  follow-step k rec S i room c r l x (picked {p = p} {a = a} {b = b} {f = f} {i = i₀} {room = room₀} {S = S'} e d y) q =
      let (s, u, z) = prefix-accepted b (plain_run k (f ∷ suc p ∷ S') i₀ room₀ c).outcome {r = r} q in
      let n = named (suc p ∷ S') a i₀ d in
      rw (suffix-is g p, e, ← z)
      (Chosen.expand (production-is g a b y) (none-lower (suc p ∷ S') a i₀ b l n) (rec (f ∷ suc p ∷ S') i₀ room₀ c s l u))

  pub run-follows : (k : ℕ) → Follows k
  unfolding run
  run-follows zero S i room c r l q = clash (cc)
  run-follows (suc k) S i room c r l q =
      let m = step g w (plainly g w) c S i room in
      follow-step k (run-follows k) S i room m.state r l m.step (see g w (plainly g w) c S i room) q

  -- ---- where it is full, the chosen derivation is longer than there was room for
  abbrev Crams : ℕ → Type 0
  Crams k = (S : List ℕ) (i room : ℕ) (c : Unit {0}) (r : List ℕ) → i ≤ length w → (plain_run k S i room c).outcome ≡ full
      → Chosen (of_places g) (spells g S) r (drop i w) → room < length r

  cram-step : (k : ℕ) → Crams k → (S : List ℕ) (i room : ℕ) (c : Unit {0}) (r : List ℕ) → i ≤ length w → Chosen (of_places g) (spells g S) r (drop i w)
      → (x : Action) → Next S i room x → (follow_step (plain_run k) i room x c).outcome ≡ full → room < length r
  unfolding spells
  cram-step k rec S i room c r l y x (ended e) q = clash (cc)
  cram-step k rec S i room c r l y x (halted n) q = clash (cc)
  cram-step k rec S i room c r l y x (crammed {p = p} {a = a} {S = S'} e) q =
      let h = chosen-call {α = suffix g (suc p) ++ spells g S'} {a = a} y (rw (suffix-is g p, e)) in
      rw h.row (omega arith)
  cram-step k rec S i room c r l y x (popped {p = p} {i = i₀} {room = room₀} {S = S'} e) q = rec S' i₀ room₀ c r l q (rw (suffix-is g p, e) at y)
  cram-step k rec S i room c r l y x (matched {p = p} {k = k'} {t = t'} {i = i₀} {room = room₀} {S = S'} e f t) q =
      rec (suc p ∷ S') (suc i₀) room₀ c r (get-below w i₀ f) q
      (chosen-token {α = suffix g (suc p) ++ spells g S'} {k = k'} {t = t'} y (rw (suffix-is g p, e)) (drop-of-get w i₀ f))
  cram-step k rec S i room c r l y x (picked {p = p} {a = a} {b = b} {f = f} {i = i₀} {room = room₀} {S = S'} e d u) q =
      let h = chosen-call {α = suffix g (suc p) ++ spells g S'} {a = a} y (rw (suffix-is g p, e)) in
      let n = named (suc p ∷ S') a i₀ d in
      let m : b ≡ h.alternative = same-lowest a b h.alternative (production-is g a b u) (none-lower (suc p ∷ S') a i₀ b l n)
      (serves→derives (suc p ∷ S') a i₀ b (production-is g a b u) n.serves) h.stands h.lowest (h.rest, chosen→leftmost h.remaining) in
      let v : some (suffix g f) ≡ some h.symbols = sym (production-is g a b u) ∙ (rw m h.stands) in
      let z : suffix g f ≡ h.symbols = cc in
      let j = rec (f ∷ suc p ∷ S') i₀ room₀ c h.rest l (prefix-full b (plain_run k (f ∷ suc p ∷ S') i₀ room₀ c).outcome q)
      (rw z h.remaining) in
      rw h.row (suc-le-suc j)

  pub run-crams : (k : ℕ) → Crams k
  unfolding run
  run-crams zero S i room c r l q y = clash (cc)
  run-crams (suc k) S i room c r l q y =
      let m = step g w (plainly g w) c S i room in
      cram-step k (run-crams k) S i room m.state r l y m.step (see g w (plainly g w) c S i room) q
