-- What the quick machine leaves is what the lessons say, over any words, coherent or not.
use mathlib.Core.Path.{◌≡◌, refl, sym, ap, subst}
use mathlib.Core.Bool.{Bool, true, false, cond}
use mathlib.Core.Option.{Option, none, some}
use mathlib.Core.List.{List, [], ◌∷◌}
use Prim.Native.Nat.{ℕ, zero, suc, ◌+◌, ◌*◌, ◌≤◌, ◌<◌}
use native.Mathlib.Omega.{arith}
use lib.Dec.{T, eqb, ltb}
use lib.ListN.{length, get_elem?, drop}
use borrow.Author.Tests.{ltb-true, ltb-false}
use Rattle.base.specs.Search.{LowestIs, this, nothing}
use Rattle.base.proofs.Booleans.{true→T, false→¬T}
use Rattle.base.proofs.Lists.{get-below}
use Rattle.grammar.specs.declared.Symbol.{Symbol}
use Rattle.grammar.specs.declared.Symbol.TheVariants.{Token, Nonterminal, End}
use Rattle.grammar.specs.Limits.{end_place}
use Rattle.grammar.specs.Decode.{Rules}
use Rattle.grammar.specs.Grammar.{Grammar, facing, admits, alternatives, first, compile, Limited}
use Rattle.derivation.specs.Machine.{Choice, choice, accepted, stuck, halt, moved, follow, run, run_call, step, reading}
use Rattle.derivation.specs.Runs.{Serves}
use Rattle.derivation.specs.inside.Choosers.{thence}
use Rattle.derivation.proofs.Stretches.{get_in}
use Rattle.derivation.proofs.LowestLaws.{lowest-serves}
use Rattle.derivation.proofs.MachineFuel.{enough}
use Rattle.derivation.proofs.MachineSteps.{run_end, run-match, run_none, run-other, run-calls, call-full, call-unserved, call-pick}
use Rattle.std.specs.Prelude.{Some, None}
use Rattle.cache.specs.Predict.{predict}
use Rattle.cache.specs.Predictor.{Forecast, predicted}
use Rattle.lookahead.specs.Configs.{Decides}
use Rattle.cache.specs.Lessons.{Foretells}
use Rattle.cache.proofs.ForecastLaws.{predict-named}
use Rattle.cache.proofs.LessonLaws.{foretells}
use Rattle.adaptive.specs.Chooser.{settle, adaptively}
use Rattle.adaptive.specs.Proceeding.{Takes, only, foretold, lowest-serving, none-serving, opened, waiting, Proceeds, done, pops, matches, differs}
use Rattle.adaptive.specs.Proceeding.{lacks, calls, crammed, enters, stops}
use Rattle.adaptive.proofs.ChoiceLaws.{choice-decided, choice-single}

-- a nonterminal of at least one and at most one production
one_only : (l : List ℕ) → 1 ≤ length l → length l ≤ 1 → (f : ℕ) × (l ≡ f ∷ [])
one_only [] h k = absurd (omega arith)
one_only (f ∷ []) h k = (f, refl)
one_only (f ∷ e ∷ l) h k = absurd (omega arith)

-- an alternative of a nonterminal has a first place
first_of : (g : Grammar) (a b : ℕ) → 1 ≤ b → b ≤ length (alternatives g a) → (f : ℕ) × (first g a b ≡ some f)
first_of g a zero m k = absurd (omega arith)
first_of g a (suc b) m k = get_in (alternatives g a) b k

-- what a chooser named, as what is taken
data Chose (g : Grammar) (w S : List ℕ) (a i : ℕ) (c : List ℕ) : Choice (List ℕ) → Type 0 where
  taking : {b f : ℕ} {d : List ℕ} → Takes g w S a i c (some f) d → first g a b ≡ some f → Chose g w S a i c (choice (some b) d)
  leaving : {d : List ℕ} → Takes g w S a i c none d → Chose g w S a i c (choice none d)

module _ (r : Rules) (limits : Limited r) (w : List ℕ) where
  abbrev g : Grammar
  g = compile r

  module _ (c S : List ℕ) (a i : ℕ) where
    -- FULL
    searched : Decides g a → {d : List ℕ} → Foretells g c a (drop i w) None d → {o : Option ℕ} → LowestIs (Serves g w S a i) o
        → Chose g w S a i c (choice o d)
    searched h x (this b y l) = taking (lowest-serving h x y l y.1) y.1
    searched h x (nothing n) = leaving (none-serving h x n)

    settled : Decides g a → {d : List ℕ} (x : Forecast) → Foretells g c a (drop i w) x d
        → ((b : ℕ) → x ≡ Some b → (1 ≤ b) × (b ≤ length (alternatives g a)))
        → Chose g w S a i c (settle g w S a i (predicted x d))
    unfolding settle
    settled h (Some b) x n =
        let k = n b refl in
        let f = first_of g a b k.0 k.1 in
        taking (foretold h x f.1) f.1
    settled h None x n = searched h x (lowest-serves g w S a i)

    chose : 1 ≤ length (alternatives g a) → Chose g w S a i c (adaptively g w c S a i)
    chose some_one = go (ltb 1 (length (alternatives g a))) refl
      where
        go : (x : Bool) → ltb 1 (length (alternatives g a)) ≡ x → Chose g w S a i c (adaptively g w c S a i)
        go true e =
            rw (choice-decided g w (predict g) c S a i e)
            (settled (ltb-true 1 (length (alternatives g a)) e) (predict g c a (drop i w)).forecast (foretells r limits c a (drop i w))
            (predict-named g c a (drop i w)))
        go false e =
            let f = one_only (alternatives g a) some_one (ltb-false 1 (length (alternatives g a)) e) in
            rw (choice-single g w (predict g) c S a i e) (taking {b = 1} (only f.1) (ap (λ (l : List ℕ). get_elem? l 0) f.1))

  -- every nonterminal that a place faces has a production
  module _ (some_one : (p a : ℕ) → facing g p ≡ Nonterminal a → 1 ≤ length (alternatives g a)) where
    -- what so many steps leave
    abbrev Left : ℕ → Type 0
    Left k = (S : List ℕ) (i room : ℕ) (c : List ℕ) → enough w S i room < k
        → Proceeds g w (opened S) i room c (run g w (adaptively g w) k S i room c).state

    call-left : (k : ℕ) → Left k → (S : List ℕ) (a i room : ℕ) (c : List ℕ) → 1 ≤ length (alternatives g a) → enough w S i room ≤ k
        → Proceeds g w (waiting a S) i room c (run_call g w (adaptively g w) k S a i room c).state
    call-left k rec S a i zero c h l = rw (call-full g w (adaptively g w) k S a i c zero refl) crammed
    call-left k rec S a i (suc room) c h l = go (chose c S a i h) refl
      where
        go : {x : Choice (List ℕ)} → Chose g w S a i c x → adaptively g w c S a i ≡ x
            → Proceeds g w (waiting a S) i (suc room) c (run_call g w (adaptively g w) k S a i (suc room) c).state
        go (taking {b = b} {f = f} {d = d} t e) q =
            let u : d ≡ thence (adaptively g w) c S a i = sym (ap (λ (x : Choice (List ℕ)). x.state) q) in
            rw (call-pick g w (adaptively g w) k S a i c (suc room) refl (ap (λ (x : Choice (List ℕ)). x.alternative) q) e)
            (enters t (subst (λ (v : List ℕ). Proceeds g w (opened (f ∷ S)) i room d (run g w (adaptively g w) k (f ∷ S) i room v).state) u
            (rec (f ∷ S) i room d (omega arith))))
        go (leaving {d = d} t) q =
            let u : d ≡ thence (adaptively g w) c S a i = sym (ap (λ (x : Choice (List ℕ)). x.state) q) in
            rw (call-unserved g w (adaptively g w) k S a i c (suc room) refl (ap (λ (x : Choice (List ℕ)). x.alternative) q))
            (subst (λ (v : List ℕ). Proceeds g w (waiting a S) i (suc room) c v) u (stops t))

    -- nothing is open
    empty_left : (k i room : ℕ) (c : List ℕ) → Proceeds g w (opened []) i room c (run g w (adaptively g w) (suc k) [] i room c).state
    unfolding run step
    empty_left k i room c = go (eqb i (length w))
      where
        go : (b : Bool) → Proceeds g w (opened []) i room c
            (follow (run g w (adaptively g w) k) i room (moved (cond b (halt (accepted [])) (halt stuck)) c)).state
        go true = done
        go false = done

    run-left : (k : ℕ) → Left k
    run-left zero S i room c l = absurd (omega arith)
    run-left (suc k) [] i room c l = empty_left k i room c
    run-left (suc k) (p ∷ S) i room c l = go (facing g p) refl (run-left k)
      where
        token : (n : ℕ) → facing g p ≡ Token n → (o : Option ℕ) → get_elem? w i ≡ o → Left k
            → Proceeds g w (opened (p ∷ S)) i room c (run g w (adaptively g w) (suc k) (p ∷ S) i room c).state
        token n e none f rec = rw (run_none g w (adaptively g w) k p S i room c e f) (lacks e f)
        token n e (some t) f rec = admit (admits g n t) refl
          where
            admit : (b : Bool) → admits g n t ≡ b
                → Proceeds g w (opened (p ∷ S)) i room c (run g w (adaptively g w) (suc k) (p ∷ S) i room c).state
            admit true q =
                let y = true→T (admits g n t) q in
                rw (run-match g w (adaptively g w) k p S i room c e f y)
                (matches e f y (rec (suc p ∷ S) (suc i) room c (omega (arith, get-below w i f))))
            admit false q = rw (run-other g w (adaptively g w) k p S i room c e f q) (differs e f (false→¬T (admits g n t) q))

        go : (s : Symbol) → facing g p ≡ s → Left k → Proceeds g w (opened (p ∷ S)) i room c (run g w (adaptively g w) (suc k) (p ∷ S) i room c).state
        go End e rec = rw (run_end g w (adaptively g w) k p S i room c e) (pops e (rec S i room c (omega arith)))
        go (Token n) e rec = token n e (get_elem? w i) refl rec
        go (Nonterminal a) e rec =
            rw (run-calls g w (adaptively g w) k p S i room c e) (calls e (call-left k rec (suc p ∷ S) a i room c (some_one p a e) (omega arith)))

    -- A WHOLE READING leaves what the lessons say
    pub reading-left : (room : ℕ) (c : List ℕ) → 1 ≤ length (alternatives g 0)
        → Proceeds g w (waiting 0 (end_place ∷ [])) 0 room c (reading g w (adaptively g w) room c).state
    unfolding reading
    reading-left room c h =
        call-left (suc (2 * room + length w)) (run-left (suc (2 * room + length w))) (end_place ∷ []) 0 0 room c h (omega arith)
