-- WHAT A CALL TEACHES a cache: by any grammar that is read from bytes and over any words, coherent or not, the words worked out are those that the learning
-- rules give, and no others; and every earlier record is kept.
use mathlib.Core.Path.{◌≡◌, refl, sym, subst}
use mathlib.Core.Logic.{◌↔◌}
use mathlib.Core.Option.{Option}
use mathlib.Core.List.{List}
use Prim.Native.Nat.{ℕ, ◌≤◌}
use native.Mathlib.Omega.{arith}
use lib.ListN.{length}
use Rattle.base.proofs.Booleans.{clash}
use Rattle.grammar.specs.Limits.{max_kinds}
use Rattle.grammar.specs.Decode.{Rules}
use Rattle.grammar.specs.Grammar.{compile, Limited}
use Rattle.derivation.specs.Runs.{marked}
use Rattle.derivation.specs.Gate.{Gate, at_gate}
use Rattle.derivation.specs.Demand2.{Known}
use Rattle.derivation.proofs.CountLaws.{compile-some, compile-called}
use Rattle.derivation.proofs.GateLaws.{Noted, eight, nine, eleven, admitted, note-gate, known-none}
use Rattle.lookahead.specs.Rules.{Each}
use Rattle.lookahead.proofs.Bounds.{compile-bounded}
use Rattle.cache.specs.Coherent.{Extends}
use Rattle.cache.proofs.ExtendLaws.{extends-refl, extends-trans}
use Rattle.cache.proofs.LessonGrowth.{foretells-grows}
use Rattle.cache.proofs.PredictorLaws.{in-drop}
use Rattle.adaptive.specs.Quick.{quick_note}
use Rattle.adaptive.specs.Proceeding.{Takes, only, foretold, lowest-serving, none-serving, Stand, Proceeds, done, pops, matches, differs, lacks, calls}
use Rattle.adaptive.specs.Proceeding.{crammed, enters, stops, ReadsNote}
use Rattle.adaptive.specs.Calls.{Call}
use Rattle.adaptive.specs.Teaching.{Teaches, refused, read, TeachesAll, none, next}
use Rattle.adaptive.specs.inside.Agreement.{taught}
use Rattle.adaptive.proofs.ProceedLaws.{reading-left}
use Rattle.adaptive.proofs.ProceedOne.{proceeds-one}
use Rattle.adaptive.proofs.QuickLaws.{tokens-of}

module _ (r : Rules) (limits : Limited r) where
  -- ---- what the quick machine leaves is what the lessons say
  pub note-reads : (w : List ℕ) (room : ℕ) (c : List ℕ) → ReadsNote (compile r) w room c (quick_note (compile r) w room c).state
  unfolding quick_note
  note-reads w room c = reading-left r limits (marked w) (compile-called r limits) room c (compile-some r limits 0 limits.some)

  -- and they say it alone
  pub note-one : (w : List ℕ) (room : ℕ) (c d : List ℕ) → ReadsNote (compile r) w room c d ↔ (d ≡ (quick_note (compile r) w room c).state)
  note-one w room c d = (
    λ x. proceeds-one (compile r) (compile-bounded r limits).few (marked w) x (note-reads w room c),
    λ e. subst (ReadsNote (compile r) w room c) (sym e) (note-reads w room c),
  )

  -- ---- a call
  abbrev taught_by : List ℕ → Call → Gate → List ℕ
  taught_by c k x = at_gate (λ n p. c) (λ g. (quick_note g k.note (length k.row) c).state) x

  noted-teaches : (c : List ℕ) (k : Call) {x : Gate} → Noted (compile r) k.note k.space x → Teaches (compile r) c k (taught_by c k x)
  noted-teaches c k (eight l) = refused (λ h. omega (arith, h.short))
  noted-teaches c k (nine i l u) = refused (λ h. let e = known-none (compile r).kinds k.note h.known in clash (cc))
  noted-teaches c k (eleven l t w) = refused (λ h. omega (arith, h.roomy))
  noted-teaches c k (admitted l t w) = read (record { short = l; known = t; roomy = w }) (note-reads k.note (length k.row) c)

  pub teaches : (c : List ℕ) (k : Call) → Teaches (compile r) c k (taught (compile r) c k)
  unfolding taught
  teaches c k = noted-teaches c k (note-gate (compile r) k.note k.space)

  pub teaches-one : {c d e : List ℕ} {k : Call} → Teaches (compile r) c k d → Teaches (compile r) c k e → d ≡ e
  teaches-one (refused n) (refused n') = refl
  teaches-one (refused n) (read h x) = absurd (n h)
  teaches-one (read h x) (refused n) = absurd (n h)
  teaches-one {k = k} (read h x) (read h' y) = proceeds-one (compile r) (compile-bounded r limits).few (marked k.note) x y

  -- EXACTLY the words that the learning rules give
  pub teaches-iff : (c : List ℕ) (k : Call) (d : List ℕ) → Teaches (compile r) c k d ↔ (d ≡ taught (compile r) c k)
  teaches-iff c k d = (λ x. teaches-one x (teaches c k), λ e. subst (Teaches (compile r) c k) (sym e) (teaches c k))

  -- ---- a list of calls
  pub teaches-all-one : {ks : List Call} {c d e : List ℕ} → TeachesAll (compile r) c ks d → TeachesAll (compile r) c ks e → d ≡ e
  teaches-all-one none none = refl
  teaches-all-one (next x xs) (next y ys) = let z = teaches-one x y in teaches-all-one xs (rw z ys)

  -- ---- every earlier record is kept
  module _ (w : List ℕ) (known : Each (λ (t : ℕ). t ≤ max_kinds) w) where
    takes-grow : {S : List ℕ} {a i : ℕ} {c : List ℕ} {o : Option ℕ} {d : List ℕ} → Takes (compile r) w S a i c o d → Extends (compile r) c d
    takes-grow {c = c} (only e) = extends-refl (compile r) c
    takes-grow {i = i} (foretold h x f) = foretells-grows r limits h (λ t m. known t (in-drop i w m)) x
    takes-grow {i = i} (lowest-serving h x y l f) = foretells-grows r limits h (λ t m. known t (in-drop i w m)) x
    takes-grow {i = i} (none-serving h x n) = foretells-grows r limits h (λ t m. known t (in-drop i w m)) x

    proceeds-grow : {x : Stand} {i room : ℕ} {c d : List ℕ} → Proceeds (compile r) w x i room c d → Extends (compile r) c d
    proceeds-grow (done {c = c}) = extends-refl (compile r) c
    proceeds-grow (pops f x) = proceeds-grow x
    proceeds-grow (matches f t a x) = proceeds-grow x
    proceeds-grow (differs {c = c} f t n) = extends-refl (compile r) c
    proceeds-grow (lacks {c = c} f t) = extends-refl (compile r) c
    proceeds-grow (calls f x) = proceeds-grow x
    proceeds-grow (crammed {c = c}) = extends-refl (compile r) c
    proceeds-grow (enters {c = c} {d = d} {e = e} t x) = extends-trans (compile r) c d e (takes-grow t) (proceeds-grow x)
    proceeds-grow (stops t) = takes-grow t

  -- EVERY EARLIER RECORD IS KEPT, whatever words the cache holds
  pub note-extends : (w : List ℕ) (room : ℕ) (c : List ℕ) → Known (compile r).kinds w → Extends (compile r) c (quick_note (compile r) w room c).state
  unfolding compile
  note-extends w room c known =
      proceeds-grow (marked w) (λ t m. let h = tokens-of (compile r).kinds w known t m in omega (arith, limits.kinds-most)) (note-reads w room c)

  pub teaches-extends : {c d : List ℕ} {k : Call} → Teaches (compile r) c k d → Extends (compile r) c d
  unfolding compile
  teaches-extends {c} (refused n) = extends-refl (compile r) c
  teaches-extends {k = k} (read h x) =
      proceeds-grow (marked k.note) (λ t m. let h = tokens-of (compile r).kinds k.note h.known t m in omega (arith, limits.kinds-most)) x
