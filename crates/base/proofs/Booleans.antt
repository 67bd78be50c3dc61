-- Booleans read as types, contradictions, and tests one after another.
use mathlib.Core.Path.{◌≡◌, refl, sym, ap, ◌∙◌, subst}
use mathlib.Core.Logic.{◌⊎◌, inl, inr}
use mathlib.Core.Bool.{Bool, true, false, ◌&&◌, ◌||◌, not}
use Prim.Native.Nat.{ℕ}
use native.Mathlib.Omega.{arith}
use lib.Dec.{T}
use borrow.Author.Tests.{not-true, not-false}

-- two constructors that are said to be equal: `clash (cc)` closes any goal
pub clash : {A : Type 0} → ◌≡◌ {A = ℕ} 0 1 → A
clash z = absurd (omega arith)

pub and_T : (a b : Bool) → T (a && b) → T a × T b
and_T true b t = (tt, t)
and_T false b t = absurd t

pub T_and : (a b : Bool) → T a → T b → T (a && b)
T_and true b s t = t
T_and false b s t = absurd s

pub or-T : (a b : Bool) → T (a || b) → T a ⊎ T b
or-T true b t = inl tt
or-T false b t = inr t

pub T-or-l : (a b : Bool) → T a → T (a || b)
T-or-l true b t = tt
T-or-l false b t = absurd t

pub T-or-r : (a b : Bool) → T b → T (a || b)
T-or-r true b t = tt
T-or-r false b t = t

pub T→true : (b : Bool) → T b → b ≡ true
T→true true t = refl
T→true false t = absurd t

pub true→T : (b : Bool) → b ≡ true → T b
true→T b e = subst T (sym e) tt

pub false→¬T : (b : Bool) → b ≡ false → ¬ T b
false→¬T b e t = rw e at t

pub ¬T→false : (b : Bool) → ¬ T b → b ≡ false
¬T→false true h = absurd (h tt)
¬T→false false h = refl

-- two tests that imply each other are equal
pub same : (a b : Bool) → (T a → T b) → (T b → T a) → a ≡ b
same true true h k = refl
same true false h k = absurd (h tt)
same false true h k = absurd (k tt)
same false false h k = refl

pub or_assoc : (a b c : Bool) → ((a || b) || c) ≡ (a || (b || c))
or_assoc true b c = refl
or_assoc false b c = refl

pub or-none : (a : Bool) → (a || false) ≡ a
or-none true = refl
or-none false = refl

pub or-true : (a : Bool) → (a || true) ≡ true
or-true true = refl
or-true false = refl

pub and_assoc : (a b c : Bool) → ((a && b) && c) ≡ (a && (b && c))
and_assoc true b c = refl
and_assoc false b c = refl

pub and-all : (a : Bool) → (a && true) ≡ a
and-all true = refl
and-all false = refl

pub and_none : (a : Bool) → (a && false) ≡ false
and_none true = refl
and_none false = refl

-- ---- tests as code makes them
-- one that was found to fail, and one that was found to hold
pub failed : {r p : Bool} → r ≡ p → not r ≡ true → p ≡ false
failed {r} e n = sym e ∙ not-true r n

pub passed : {r p : Bool} → r ≡ p → not r ≡ false → p ≡ true
passed {r} e n = sym e ∙ not-false r n

-- one after another: the first that fails decides, and else the last
pub stop : {a : Bool} (r : Bool) → a ≡ false → false ≡ (a && r)
stop {a} r e = ap (λ (b : Bool). b && r) (sym e)

pub on : {a x r : Bool} → a ≡ true → x ≡ r → x ≡ (a && r)
on {a} {x} {r} e h = h ∙ ap (λ (b : Bool). b && r) (sym e)
