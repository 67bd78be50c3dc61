-- In a grammar without left recursion every sentence has a chosen derivation: with room enough the machine under the plain chooser accepts it. The
-- room is a potential of the stack, which falls with every alternative taken and never rises: places count as digits, the lowest of the stack first.
use mathlib.Core.Path.{◌≡◌, refl, ◌∙◌}
use mathlib.Core.Option.{Option, some}
use mathlib.Core.List.{List, [], ◌∷◌}
use Prim.Native.Nat.{ℕ, zero, suc, ◌+◌, ◌-◌, ◌*◌, ◌/◌, ◌^◌, ◌≤◌, ◌<◌}
use native.Mathlib.Nat.{mul-le-mul_right, suc-mul, one-le-mul, one-le-pow, pow-succ'}
use native.Mathlib.Omega.{arith}
use lib.ListN.{length}
use Rattle.base.specs.Search.{LowestIs, this, nothing}
use Rattle.base.proofs.Booleans.{clash}
use Rattle.grammar.specs.declared.Symbol.TheVariants.{Nonterminal}
use Rattle.grammar.specs.Limits.{end_place}
use Rattle.grammar.specs.Decode.{Rules}
use Rattle.grammar.specs.Grammar.{Grammar, facing, first, size_all, compile, Limited, of_places}
use Rattle.grammar.specs.inside.Ordered.{Ordered}
use Rattle.grammar.specs.Derivation.{Derives}
use Rattle.grammar.proofs.OrderedLaws.{compile-ordered}
use Rattle.grammar.proofs.PlaceLaws.{compile-within}
use Rattle.closures.specs.Textbook.{LeftRecursive}
use Rattle.derivation.specs.Runs.{Run, marked}
use Rattle.derivation.specs.inside.BigSteps.{ReadsWhole}
use Rattle.derivation.specs.Machine.{Chooser, lowest, plainly, Conclusion, accepted, stuck, full, Action, step, follow_step, run}
use Rattle.derivation.specs.Runs.{Serves}
use Rattle.derivation.specs.inside.Choosers.{Anywhere, Anyone, AnyState, anywhere}
use Rattle.derivation.specs.Chosen.{Chosen}
use Rattle.derivation.specs.inside.Steps.{popped, matched, picked, Quiet, Reads}
use Rattle.derivation.proofs.WholeChosen.{start-chosen}
use Rattle.derivation.proofs.WholeNotes.{whole-sentence}
use Rattle.derivation.proofs.MachineLaws.{Names, Seen, see, prefix-full}
use Rattle.derivation.proofs.MachineLive.{run-live}
use Rattle.derivation.proofs.LowestLaws.{lowest-serves, lowest-right}
use Rattle.derivation.proofs.LowestReading.{plain_run}
use Rattle.derivation.proofs.Entries.{open-start, open_step}
use Rattle.derivation.specs.inside.Entries.{Open}
use Rattle.derivation.proofs.Depth.{frames}
use Rattle.derivation.proofs.CompiledDepth.{end_quiet, compile-reads}

-- ---- the potential of a stack over which h places more may come, in a grammar that calls at places below P only
unfoldable pub potential : ℕ → ℕ → List ℕ → ℕ
potential P h [] = 0
potential P h (p ∷ S) = (P - p) * suc P ^ h + potential P (suc h) S

module _ (P : ℕ) where
  -- a place leaves the stack, or moves on
  potential-pop : (h p : ℕ) (S : List ℕ) → potential P (suc h) S ≤ potential P h (p ∷ S)
  unfolding potential
  potential-pop h p S = omega arith

  potential-on : (h p : ℕ) (S : List ℕ) → potential P h (suc p ∷ S) ≤ potential P h (p ∷ S)
  unfolding potential
  potential-on h p S =
      let l : P - suc p ≤ P - p = omega arith in
      let m = mul-le-mul_right (suc P ^ h) l in
      omega arith

  -- where a call stands there is room
  potential-call : (h p : ℕ) (S : List ℕ) → p < P → 1 ≤ potential P h (p ∷ S)
  unfolding potential
  potential-call h p S l =
      let k : 1 ≤ P - p = omega arith in
      let m = one-le-mul k (one-le-pow h (suc P) (omega arith)) in
      omega arith

  -- an alternative is taken: the place of the call moves on, and a place comes over it
  potential-pick : (h p f : ℕ) (S : List ℕ) → p < P → potential P h (f ∷ suc p ∷ S) < potential P (suc h) (p ∷ S)
  unfolding potential
  potential-pick h p f S l =
      let d : P - p ≡ suc (P - suc p) = omega arith in
      let u : (P - p) * suc P ^ suc h ≡ (P - suc p) * suc P ^ suc h + suc P ^ suc h = rw d (suc-mul (P - suc p) (suc P ^ suc h)) in
      let v : suc P ^ suc h ≡ P * suc P ^ h + suc P ^ h = pow-succ' (suc P) h ∙ suc-mul P (suc P ^ h) in
      let k : P - f ≤ P = omega arith in
      let m = mul-le-mul_right (suc P ^ h) k in
      let o = one-le-pow h (suc P) (omega arith) in
      omega arith

-- ---- with as much room as the potential the machine is never full
module _ {C : Type 0} (g : Grammar) (ordered : Ordered g) (w : List ℕ) (n : ℕ) (reads : Reads g w n) (G : List ℕ) (silent : Quiet g G)
    (choose : Chooser C)
    (P : ℕ) (within : (p d : ℕ) → facing g p ≡ Nonterminal d → p < P) (D : ℕ)
    (deep : (p i : ℕ) (S : List ℕ) → Open g G n (p ∷ S) i → length S ≤ D) where
  abbrev Roomy : ℕ → Type 0
  Roomy k = (S : List ℕ) (i room h : ℕ) (c : C) → Open g G n S i → length S + h ≡ suc D → potential P h S ≤ room
      → ¬ ((run g w choose k S i room c).outcome ≡ full)

  room-step : (k : ℕ) → Roomy k → (named : Names) (S : List ℕ) (i room h : ℕ) (c : C) → Open g G n S i → length S + h ≡ suc D
      → potential P h S ≤ room
      → (x : Action) → Seen g w named S i room x → ¬ ((follow_step (run g w choose k) i room x c).outcome ≡ full)
  room-step k rec named S i room h c o l m x (Seen.ended e) q = clash (cc)
  room-step k rec named S i room h c o l m x (Seen.halted e) q = clash (cc)
  room-step k rec named S i room h c o l m x (Seen.crammed {p = p} {a = a} {S = S'} e) q =
      let u = potential-call P h p S' (within p a e) in
      omega arith
  room-step k rec named S i room h c o l m x (Seen.popped {p = p} {i = i₀} {room = room₀} {S = S'} e) q =
      let u = potential-pop P h p S' in
      rec S' i₀ room₀ (suc h) c (open_step g ordered w n reads G silent o (popped e)) (omega arith) (omega arith) q
  room-step k rec named S i room h c o l m x (Seen.matched {p = p} {i = i₀} {room = room₀} {S = S'} e f t) q =
      let u = potential-on P h p S' in
      rec (suc p ∷ S') (suc i₀) room₀ h c (open_step g ordered w n reads G silent o (matched e f t)) (omega arith) (omega arith) q
  room-step k rec named S i room zero c o l m x (Seen.picked {p = p} {b = b} {f = f} {i = i₀} {S = S'} e d y) q =
      let u = deep f i₀ (suc p ∷ S') (open_step g ordered w n reads G silent o (picked b e y)) in
      omega arith
  room-step k rec named S i room (suc h) c o l m x (Seen.picked {p = p} {a = a} {b = b} {f = f} {i = i₀} {room = room₀} {S = S'} e d y) q =
      let u = potential-pick P h p f S' (within p a e) in
      rec (f ∷ suc p ∷ S') i₀ room₀ h c (open_step g ordered w n reads G silent o (picked b e y)) (omega arith) (omega arith)
      (prefix-full b (run g w choose k (f ∷ suc p ∷ S') i₀ room₀ c).outcome q)

  pub run-roomy : (k : ℕ) → Roomy k
  unfolding run
  run-roomy zero S i room h c o l m q = clash (cc)
  run-roomy (suc k) S i room h c o l m q =
      let s = step g w choose c S i room in
      room-step k (run-roomy k) (λ S a i. (choose c S a i).alternative) S i room h s.state o l m s.step (see g w choose c S i room) q

-- ---- so a sentence has a chosen derivation
module _ (g : Grammar) (ordered : Ordered g) (w : List ℕ) (n : ℕ) (reads : Reads g (marked w) n) (P : ℕ)
    (within : (p d : ℕ) → facing g p ≡ Nonterminal d → p < P) (sound : (a : ℕ) → ¬ LeftRecursive (of_places g) a) where
  -- over the end place the machine is not full
  roomy : (D h k a b f : ℕ) → D ≡ (suc P / 2) * suc n + 1 → first g a b ≡ some f → h + 1 ≡ D
      → ¬ ((plain_run g (marked w) k (f ∷ end_place ∷ []) 0 (potential P h (f ∷ end_place ∷ [])) tt).outcome ≡ full)
  roomy D h k a b f q e l =
      run-roomy g ordered (marked w) n reads (end_place ∷ []) (end_quiet g ordered) (plainly g (marked w)) P within D
      (λ p i S o. let u = frames sound ordered P within o in omega arith) k (f ∷ end_place ∷ []) 0 (potential P h (f ∷ end_place ∷ [])) h tt
      (open-start g ordered (marked w) n reads (end_place ∷ []) (end_quiet g ordered) a b f e) (omega arith) (omega arith)

  abbrev Some : Type 0
  Some = (s : List ℕ) × Chosen (of_places g) (Nonterminal 0 ∷ []) s w

  ending : (b f k room : ℕ) → first g 0 b ≡ some f → ((c : ℕ) → Serves g (marked w) (end_place ∷ []) 0 0 c → b ≤ c)
      → ¬ ((plain_run g (marked w) k (f ∷ end_place ∷ []) 0 room tt).outcome ≡ stuck)
      → ¬ ((plain_run g (marked w) k (f ∷ end_place ∷ []) 0 room tt).outcome ≡ full) → Some
  ending b f k room e least live roomy = go (plain_run g (marked w) k (f ∷ end_place ∷ []) 0 room tt).outcome refl
    where
      go : (o : Conclusion) → (plain_run g (marked w) k (f ∷ end_place ∷ []) 0 room tt).outcome ≡ o → Some
      go (accepted s) q = (b ∷ s, start-chosen g ordered w b f k room tt e least s q)
      go stuck q = absurd (live q)
      go full q = absurd (roomy q)

  -- the room and the steps that are enough, as variables
  enough : (b f h room k : ℕ) (r : List ℕ) → h ≡ (suc P / 2) * suc n → room ≡ potential P h (f ∷ end_place ∷ [])
      → 2 * room + length (marked w) + 2 < k
      → first g 0 b ≡ some f → Run g (marked w) (f ∷ end_place ∷ []) 0 (length (marked w)) r
      → ((c : ℕ) → Serves g (marked w) (end_place ∷ []) 0 0 c → b ≤ c) → Some
  enough b f h room k r q z l e x least =
      ending b f k room e least
      (run-live AnyState g (marked w) Anywhere Anyone (anywhere g) (plainly g (marked w)) (lowest-right g (marked w) Anyone) k (f ∷ end_place ∷ []) 0 room tt
      (omega arith)
      tt tt (r, x))
      (rw z (roomy (h + 1) h k 0 b f (omega arith) e refl))

  pub sentence-chosen : Derives (of_places g) (Nonterminal 0 ∷ []) w → Some
  sentence-chosen d =
      go (lowest g (marked w) (end_place ∷ []) 0 0) (lowest-serves g (marked w) (end_place ∷ []) 0 0)
      ((whole-sentence g ordered.marked_end ordered.end-past 0 w).1 d)
    where
      go : (o : Option ℕ) → LowestIs (Serves g (marked w) (end_place ∷ []) 0 0) o → (b : ℕ) × (r : List ℕ) × ReadsWhole g 0 b r w → Some
      go o (this b (f, e, (r, x)) least) _ =
          enough b f ((suc P / 2) * suc n) (potential P ((suc P / 2) * suc n) (f ∷ end_place ∷ []))
          (suc (2 * potential P ((suc P / 2) * suc n) (f ∷ end_place ∷ []) + length (marked w) + 2)) r refl refl (omega arith) e x least
      go o (nothing n) (b, r, (f, e, x)) = absurd (n b (f, e, (r, x)))

pub chosen-exists : (r : Rules) → Limited r → ((a : ℕ) → ¬ LeftRecursive (of_places (compile r)) a) → (w : List ℕ)
    → Derives (of_places (compile r)) (Nonterminal 0 ∷ []) w
    → (s : List ℕ) × Chosen (of_places (compile r)) (Nonterminal 0 ∷ []) s w
chosen-exists r limits none w =
    sentence-chosen (compile r) (compile-ordered r limits) w (length w) (compile-reads r limits w) (size_all r.productions) (compile-within r limits) none
