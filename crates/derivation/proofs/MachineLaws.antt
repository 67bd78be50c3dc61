-- The machine under any chooser, whatever state it carries: what it does next, in facts; and what it accepts is a run that has room.
use mathlib.Core.Path.{◌≡◌, refl}
use mathlib.Core.Bool.{Bool, true, false, cond}
use mathlib.Core.Option.{Option, none, some}
use mathlib.Core.List.{List, [], ◌∷◌}
use Prim.Native.Nat.{ℕ, zero, suc, ◌≤◌, suc-le-suc}
use native.Mathlib.Omega.{arith}
use lib.Dec.{T, eqb, eqb→eq}
use lib.ListN.{length, get_elem?}
use Rattle.base.proofs.Booleans.{clash, true→T}
use Rattle.grammar.specs.declared.Symbol.{Symbol}
use Rattle.grammar.specs.declared.Symbol.TheVariants.{Token, Nonterminal, End}
use Rattle.grammar.specs.Grammar.{Grammar, facing, admits, first}
use Rattle.derivation.specs.Runs.{Run}
use Rattle.derivation.specs.Machine.{Chooser, Conclusion, accepted, stuck, full, prefix, Action, halt, move, pick, on_token, on_first, on_choice}
use Rattle.derivation.specs.Machine.{on_call, on_symbol, step, follow_step, run, run_call}
use Rattle.derivation.specs.inside.Choosers.{names, thence}

-- the alternatives that a chooser names from one state
abbrev pub Names : Type 0
Names = List ℕ → ℕ → ℕ → Option ℕ

-- ---- what becomes of nonterminal a over the stack S at i, in facts
pub data Called (g : Grammar) (named : Names) (S : List ℕ) (a i : ℕ) : ℕ → Action → Type 0 where
  no_room : Called g named S a i 0 (halt full)
  unnamed : {room : ℕ} → named S a i ≡ none → Called g named S a i (suc room) (halt stuck)
  absent : {b room : ℕ} → named S a i ≡ some b → first g a b ≡ none → Called g named S a i (suc room) (halt stuck)
  taken : {b f room : ℕ} → named S a i ≡ some b → first g a b ≡ some f → Called g named S a i (suc room) (pick b (f ∷ S))

pub call-seen : {C : Type 0} (g : Grammar) (choose : Chooser C) (c : C) (S : List ℕ) (a i room : ℕ)
    → Called g (names choose c) S a i room (on_call g choose c S a i room).step
unfolding on_call
call-seen g choose c S a i zero = no_room
call-seen g choose c S a i (suc room) = go (names choose c S a i) refl
  where
    begin : (b : ℕ) → names choose c S a i ≡ some b → (o : Option ℕ) → first g a b ≡ o
        → Called g (names choose c) S a i (suc room) (on_first S b o)
    begin b d none e = absent d e
    begin b d (some f) e = taken d e

    go : (o : Option ℕ) → names choose c S a i ≡ o → Called g (names choose c) S a i (suc room) (on_choice g S a o)
    go none d = unnamed d
    go (some b) d = begin b d (first g a b) refl

-- ---- outcomes with one alternative more
pub prefix-accepted : (b : ℕ) (o : Conclusion) {r : List ℕ} → prefix b o ≡ accepted r → (s : List ℕ) × (o ≡ accepted s) × (b ∷ s ≡ r)
prefix-accepted b (accepted s) e = (s, refl, cc)
prefix-accepted b stuck e = clash (cc)
prefix-accepted b full e = clash (cc)

pub prefix-stuck : (b : ℕ) (o : Conclusion) → prefix b o ≡ stuck → o ≡ stuck
prefix-stuck b (accepted s) e = cc
prefix-stuck b stuck e = refl
prefix-stuck b full e = cc

pub prefix-full : (b : ℕ) (o : Conclusion) → prefix b o ≡ full → o ≡ full
prefix-full b (accepted s) e = cc
prefix-full b stuck e = cc
prefix-full b full e = refl

-- ---- what the machine does next
-- why the machine halts stuck
pub data Halted (g : Grammar) (w : List ℕ) (named : Names) : List ℕ → ℕ → Type 0 where
  over : {i : ℕ} → eqb i (length w) ≡ false → Halted g w named [] i
  past : {p i k : ℕ} {S : List ℕ} → facing g p ≡ Token k → get_elem? w i ≡ none → Halted g w named (p ∷ S) i
  other : {p i k t : ℕ} {S : List ℕ} → facing g p ≡ Token k → get_elem? w i ≡ some t → admits g k t ≡ false → Halted g w named (p ∷ S) i
  unchosen : {p i a : ℕ} {S : List ℕ} → facing g p ≡ Nonterminal a → named (suc p ∷ S) a i ≡ none → Halted g w named (p ∷ S) i
  missing : {p i a b : ℕ} {S : List ℕ} → facing g p ≡ Nonterminal a → named (suc p ∷ S) a i ≡ some b → first g a b ≡ none
      → Halted g w named (p ∷ S) i

-- what the machine does next, in facts
pub data Seen (g : Grammar) (w : List ℕ) (named : Names) : List ℕ → ℕ → ℕ → Action → Type 0 where
  ended : {i room : ℕ} → i ≡ length w → Seen g w named [] i room (halt (accepted []))
  halted : {S : List ℕ} {i room : ℕ} → Halted g w named S i → Seen g w named S i room (halt stuck)
  crammed : {p a i : ℕ} {S : List ℕ} → facing g p ≡ Nonterminal a → Seen g w named (p ∷ S) i 0 (halt full)
  popped : {p i room : ℕ} {S : List ℕ} → facing g p ≡ End → Seen g w named (p ∷ S) i room (move S i)
  matched : {p k t i room : ℕ} {S : List ℕ} → facing g p ≡ Token k → get_elem? w i ≡ some t → T (admits g k t)
      → Seen g w named (p ∷ S) i room (move (suc p ∷ S) (suc i))
  picked : {p a b f i room : ℕ} {S : List ℕ} → facing g p ≡ Nonterminal a → named (suc p ∷ S) a i ≡ some b → first g a b ≡ some f
      → Seen g w named (p ∷ S) i (suc room) (pick b (f ∷ suc p ∷ S))

see-call : {g : Grammar} {w : List ℕ} {named : Names} {p a i room : ℕ} {S : List ℕ} {x : Action} → facing g p ≡ Nonterminal a
    → Called g named (suc p ∷ S) a i room x → Seen g w named (p ∷ S) i room x
see-call e no_room = crammed e
see-call e (unnamed d) = halted (unchosen e d)
see-call e (absent d c) = halted (missing e d c)
see-call e (taken d c) = picked e d c

-- ---- the state after a step: as it was, or as the chooser leaves it; so what holds of both holds of it
pub call-state : {C : Type 0} (g : Grammar) (choose : Chooser C) (P : C → Type 0) (c : C) → P c
    → ((S : List ℕ) (a i : ℕ) → P (thence choose c S a i))
    → (S : List ℕ) (a i room : ℕ) → P (on_call g choose c S a i room).state
unfolding on_call
call-state g choose P c h k S a i zero = h
call-state g choose P c h k S a i (suc room) = k S a i

pub step-state : {C : Type 0} (g : Grammar) (w : List ℕ) (choose : Chooser C) (P : C → Type 0) (c : C) → P c
    → ((S : List ℕ) (a i : ℕ) → P (thence choose c S a i)) → (S : List ℕ) (i room : ℕ) → P (step g w choose c S i room).state
unfolding step on_symbol
step-state g w choose P c h k [] i room = h
step-state g w choose P c h k (p ∷ S) i room = go (facing g p)
  where
    go : (s : Symbol) → P (on_symbol g w choose c p S i room s).state
    go (Token t) = h
    go (Nonterminal a) = call-state g choose P c h k (suc p ∷ S) a i room
    go End = h

-- what is accepted for nonterminal a over the stack S: an alternative of it, and a run behind that
pub record Expanded (g : Grammar) (w S : List ℕ) (a i room : ℕ) (r : List ℕ) : Type 0 where
  pub alternative : ℕ
  pub rest : List ℕ
  pub place : ℕ
  pub row : alternative ∷ rest ≡ r
  pub stands : first g a alternative ≡ some place
  pub behind : Run g w (place ∷ S) i (length w) rest
  pub fits : length r ≤ room

module _ {C : Type 0} (g : Grammar) (w : List ℕ) (choose : Chooser C) where
  pub see : (c : C) (S : List ℕ) (i room : ℕ) → Seen g w (names choose c) S i room (step g w choose c S i room).step
  unfolding step
  see c [] i room = go (eqb i (length w)) refl
    where
      go : (b : Bool) → eqb i (length w) ≡ b → Seen g w (names choose c) [] i room (cond b (halt (accepted [])) (halt stuck))
      go true e = ended (eqb→eq i (length w) (true→T (eqb i (length w)) e))
      go false e = halted (over e)
  see c (p ∷ S) i room = go (facing g p) refl
    where
      admitted : (k t : ℕ) → facing g p ≡ Token k → get_elem? w i ≡ some t → (b : Bool) → admits g k t ≡ b
          → Seen g w (names choose c) (p ∷ S) i room (cond b (move (suc p ∷ S) (suc i)) (halt stuck))
      admitted k t e d true x = matched e d (true→T (admits g k t) x)
      admitted k t e d false x = halted (other e d x)

      token : (k : ℕ) → facing g p ≡ Token k → (o : Option ℕ) → get_elem? w i ≡ o
          → Seen g w (names choose c) (p ∷ S) i room (on_token g p S i k o)
      token k e none d = halted (past e d)
      token k e (some t) d = admitted k t e d (admits g k t) refl

      go : (s : Symbol) → facing g p ≡ s → Seen g w (names choose c) (p ∷ S) i room (on_symbol g w choose c p S i room s).step
      go (Token k) e = token k e (get_elem? w i) refl
      go (Nonterminal a) e = see-call e (call-seen g choose c (suc p ∷ S) a i room)
      go End e = popped e

  -- ---- an accepted reading is a run, and has room
  abbrev pub Fitting : List ℕ → ℕ → ℕ → List ℕ → Type 0
  Fitting S i room r = Run g w S i (length w) r × (length r ≤ room)

  -- what k steps are to give
  abbrev pub Sound : ℕ → Type 0
  Sound k = (S : List ℕ) (i room : ℕ) (c : C) (r : List ℕ) → (run g w choose k S i room c).outcome ≡ accepted r → Fitting S i room r

  sound-step : (k : ℕ) → Sound k → (named : Names) (S : List ℕ) (i room : ℕ) (c : C) (r : List ℕ) (x : Action) → Seen g w named S i room x
      → (follow_step (run g w choose k) i room x c).outcome ≡ accepted r → Fitting S i room r
  sound-step k rec named S i room c r x (ended e) q = let z : [] ≡ r = cc in rw (← z, e) (Run.done {i = length w} (omega arith), omega arith)
  sound-step k rec named S i room c r x (halted n) q = clash (cc)
  sound-step k rec named S i room c r x (crammed e) q = clash (cc)
  sound-step k rec named S i room c r x (popped {i = i₀} {room = room₀} {S = S'} e) q = let h = rec S' i₀ room₀ c r q in (Run.finish e h.0, h.1)
  sound-step k rec named S i room c r x (matched {p = p} {i = i₀} {room = room₀} {S = S'} e f t) q =
      let h = rec (suc p ∷ S') (suc i₀) room₀ c r q in (Run.match e f t h.0, h.1)
  sound-step k rec named S i room c r x (picked {p = p} {b = b} {f = f} {i = i₀} {room = room₀} {S = S'} e d y) q =
      let (s, y', z) = prefix-accepted b (run g w choose k (f ∷ suc p ∷ S') i₀ room₀ c).outcome {r = r} q in
      let h = rec (f ∷ suc p ∷ S') i₀ room₀ c s y' in
      rw (← z) (Run.expand e y h.0, suc-le-suc h.1)

  pub run_sound : (k : ℕ) → Sound k
  unfolding run
  run_sound zero S i room c r q = clash (cc)
  run_sound (suc k) S i room c r q =
      let m = step g w choose c S i room in
      sound-step k (run_sound k) (names choose c) S i room m.state r m.step (see c S i room) q

  sound-call : (k : ℕ) (named : Names) (S : List ℕ) (a i room : ℕ) (c : C) (r : List ℕ) (x : Action) → Called g named S a i room x
      → (follow_step (run g w choose k) i room x c).outcome ≡ accepted r → Expanded g w S a i room r
  sound-call k named S a i room c r x no_room q = clash (cc)
  sound-call k named S a i room c r x (unnamed e) q = clash (cc)
  sound-call k named S a i room c r x (absent e d) q = clash (cc)
  sound-call k named S a i room c r x (taken {b = b} {f = f} {room = room₀} e d) q =
      let (s, y, z) = prefix-accepted b (run g w choose k (f ∷ S) i room₀ c).outcome {r = r} q in
      let h = run_sound k (f ∷ S) i room₀ c s y in
      record { alternative = b; rest = s; place = f; row = z; stands = d; behind = h.0; fits = rw (← z) (suc-le-suc h.1) }

  pub call-sound : (k : ℕ) (S : List ℕ) (a i room : ℕ) (c : C) (r : List ℕ) → (run_call g w choose k S a i room c).outcome ≡ accepted r
      → Expanded g w S a i room r
  unfolding run_call
  call-sound k S a i room c r q =
      let m = on_call g choose c S a i room in
      sound-call k (names choose c) S a i room m.state r m.step (call-seen g choose c S a i room) q
