-- The lowest alternative that serves, by going down the stack for each: the alternatives before the next one don't serve, and whatever was worked out for
-- them left the stack as it was.
use mathlib.Core.Path.{◌≡◌, refl, ◌∙◌}
use mathlib.Core.Bool.{Bool, true, false, cond}
use mathlib.Core.Option.{some}
use mathlib.Core.List.{List, ◌∷◌}
use Prim.Native.Nat.{ℕ, suc, ◌+◌, ◌≤◌, ◌<◌}
use native.Mathlib.Numerals.{add-one}
use native.Mathlib.Omega.{arith}
use lib.Dec.{T}
use lib.ListN.{length, get_or}
use Rattle.base.proofs.Booleans.{true→T}
use Rattle.std.specs.Prelude.{Result, Ok, Some, None}
use Rattle.grammar.specs.Grammar.{alternatives, first}
use Rattle.grammar.specs.inside.Tables.{grammar_in}
use Rattle.derivation.specs.Runs.{marked}
use Rattle.derivation.specs.Machine.{serves?, lowest}
use Rattle.derivation.specs.inside.Frames.{returns_of}
use Rattle.derivation.proofs.ReadyLaws.{ready-ordered}
use Rattle.filtering.specs.inside.OpenStacks.{Reached}
use Rattle.filtering.proofs.OpensLaws.{opens-is}
use Rattle.search.specs.declared.meter.Meter.{Meter}
use Rattle.search.specs.declared.words.Size.{Size}
use Rattle.search.specs.declared.meter.Exhausted.{Exhausted}
use Rattle.opening.specs.declared.descent.Descent.{Descent}
use Rattle.search.specs.inside.Trials.{CameSoFar}
use Rattle.search.proofs.TryLaws.{first-is, first_inside}
use Rattle.opening.specs.inside.Marks.{Marks}
use Rattle.opening.specs.inside.Stacks.{StackKept}
use Rattle.opening.specs.inside.Descent.{MayDescend, Descended}
use Rattle.opening.specs.inside.Choice.{MayChoose, Chosen}
use Rattle.opening.proofs.KeptLaws.{returns-kept, stack-begins, stack-then, stack-on}
use Rattle.opening.proofs.SeekLaws.{Seeking, seeking-begins, seeking-found, seeking-on, seeking-ends}

module _ (t w ms ws : List ℕ) (base d known a i : ℕ) (m : Meter) where
  -- the first place of every alternative is reached, over the stack
  abbrev AllReached : Type 0
  AllReached = (b f : ℕ) → first (grammar_in t) a b ≡ some f → Reached (grammar_in t) (marked w) (f ∷ returns_of ws base d) i

  -- k alternatives were tried
  pub record Trying (k : ℕ) (now : List ℕ) (left : Meter) : Type 0 where
    pub kept : StackKept t w ms ws now base known
    pub spent : left.left ≤ m.left
    pub seeking : Seeking t a (serves? (grammar_in t) (marked w) (returns_of ws base d) i) k
    pub far : AllReached → CameSoFar t w ms ws m.high → CameSoFar t w ms now left.high

  module _ {s : Size} (h : MayChoose t w ms ws s base d known a i) where
    pub trying-begins : Trying 0 ws m
    unfolding serves?
    trying-begins =
        record {
          kept = stack-begins h.stacked;
          spent = omega arith;
          seeking = seeking-begins t a (serves? (grammar_in t) (marked w) (returns_of ws base d) i) refl;
          far = λ r x. x;
        }

    module _ {k f : ℕ} {now : List ℕ} {left : Meter} (x : Trying k now left) {ps : List ℕ} (p : ps ≡ alternatives (grammar_in t) a)
        (l : k < length ps) (e : f ≡ get_or ps k 0) where
      here : first (grammar_in t) a (suc k) ≡ some f
      here = first-is t a p l e

      more : k < length (alternatives (grammar_in t) a)
      more = rw p at l

      same-stack : returns_of now base d ≡ returns_of ws base d
      same-stack = returns-kept ws now base d x.kept.places

      -- one alternative is gone down by
      pub trying-descends : MayDescend t w ms now s base d known f i
      trying-descends =
          let y = h.stacked.searching.given.ready in
          record {
            stacked = stack-on h.stacked x.kept;
            stack = rw (same-stack, (ready-ordered t y).owns a (suc k) f here) h.stack;
            place = first_inside t a p l e y;
            position = h.pair.1;
          }

      module _ {after : List ℕ} {last : Meter} {r : Result Descent Exhausted} (y : Descended t w ms now after base d known f i left last r) where
        later : StackKept t w ms ws after base known
        later = stack-then x.kept y.kept

        -- the budget is out
        pub trying-out : {m' : Meter} → m'.left ≡ 0 → Chosen t w ms ws after base d known a i m (record { alternative = None; known = 0; meter = m' })
        trying-out z =
            record {
              kept = later;
              spent = omega arith;
              chosen = λ o. absurd (omega arith);
              few = omega arith;
              marks = λ o. absurd (omega arith);
              far = λ o. absurd (omega arith);
            }

      module _ {after : List ℕ} {last : Meter} {r : Descent} (y : Descended t w ms now after base d known f i left last (Ok r)) where
        told : r.yes ≡ serves? (grammar_in t) (marked w) (returns_of ws base d) i (some f)
        unfolding serves?
        told = opens-is (grammar_in t) (marked w) (f ∷ returns_of ws base d) i r.yes (rw same-stack at y.told.answer)

        came : AllReached → CameSoFar t w ms ws m.high → CameSoFar t w ms after last.high
        came u v =
            y.told.far (rw same-stack (u (suc k) f here)) (x.far u v)

        -- it serves, and all frames have marks if each was come to at one position
        pub trying-found : r.yes ≡ true → {n : ℕ} → n ≡ cond r.single d known
            → Chosen t w ms ws after base d known a i m (record { alternative = Some (k + 1); known = n; meter = last })
        unfolding lowest
        trying-found z {n} c =
            record {
              kept = later y;
              spent = omega (arith, x.spent, y.spent);
              chosen = λ _.
                  (λ v. omega arith, add-one k ∙ seeking-found t a (serves? (grammar_in t) (marked w) (returns_of ws base d) i) k x.seeking more here told z);
              few = rw c (few r.single);
              marks = λ _. rw c (marks r.single (λ v. y.told.all-marked (true→T r.yes z) v));
              far = λ _. came;
            }
          where
            few : (b : Bool) → cond b d known ≤ d
            few true = omega arith
            few false = h.few

            marks : (b : Bool) → (T b → Marks (grammar_in t) (marked w) after base d) → Marks (grammar_in t) (marked w) after base (cond b d known)
            marks true v = v tt
            marks false v = y.kept.marks

        -- it does not
        pub trying-on : r.yes ≡ false → Trying (suc k) after last
        trying-on z =
            record {
              kept = later y;
              spent = omega (arith, x.spent, y.spent);
              seeking = seeking-on t a (serves? (grammar_in t) (marked w) (returns_of ws base d) i) k x.seeking more here told z;
              far = came;
            }

    -- none does
    pub trying-ends : {k : ℕ} {now : List ℕ} {left : Meter} → Trying k now left → length (alternatives (grammar_in t) a) ≤ k
        → Chosen t w ms ws now base d known a i m (record { alternative = None; known = known; meter = left })
    unfolding lowest
    trying-ends {k} x l =
        record {
          kept = x.kept;
          spent = x.spent;
          chosen = λ _. seeking-ends t a (serves? (grammar_in t) (marked w) (returns_of ws base d) i) k x.seeking l;
          few = h.few;
          marks = λ _. x.kept.marks;
          far = λ _. x.far;
        }
