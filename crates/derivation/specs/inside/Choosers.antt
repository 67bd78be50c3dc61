-- What the laws of the machine ask of a chooser: that it names an alternative that serves wherever one does, and that it says the same again.
use Rattle.std.specs.Prelude.{◌≡◌, List, ◌∷◌, ℕ, suc}
use Rattle.std.proofs.Math.Option.{Option, some}
use Rattle.grammar.specs.declared.Symbol.TheVariants.{Token, Nonterminal, End}
use Rattle.grammar.specs.Grammar.{Grammar, facing, first}
use Rattle.derivation.specs.Machine.{choice, Chooser}
use Rattle.derivation.specs.Runs.{Serves}

-- the alternative that a chooser names from state c
abbrev pub names : {C : Type 0} → Chooser C → C → List ℕ → ℕ → ℕ → Option ℕ
names choose c S a i = (choose c S a i).alternative

-- its state after that
abbrev pub thence : {C : Type 0} → Chooser C → C → List ℕ → ℕ → ℕ → C
thence choose c S a i = (choose c S a i).state

-- some alternative serves
abbrev pub Served : Grammar → List ℕ → List ℕ → ℕ → ℕ → Type 0
Served g w S a i = (b : ℕ) × Serves g w S a i b

-- the open stacks at positions where the machine stands, and the nonterminals that wait over stacks at positions when a chooser is asked, as
-- predicates to which its steps keep
pub record Ground (g : Grammar) (Stands : List ℕ → ℕ → Type 0) (Waits : List ℕ → ℕ → ℕ → Type 0) : Type 0 where
  pub pops : (p i : ℕ) (S : List ℕ) → facing g p ≡ End → Stands (p ∷ S) i → Stands S i
  pub matches : (p k i : ℕ) (S : List ℕ) → facing g p ≡ Token k → Stands (p ∷ S) i → Stands (suc p ∷ S) (suc i)
  pub calls : (p a i : ℕ) (S : List ℕ) → facing g p ≡ Nonterminal a → Stands (p ∷ S) i → Waits (suc p ∷ S) a i
  pub takes : (a b f i : ℕ) (S : List ℕ) → first g a b ≡ some f → Waits S a i → Stands (f ∷ S) i

-- everywhere, and from every state
abbrev pub Anywhere : List ℕ → ℕ → Type 0
Anywhere S i = Unit {0}

abbrev pub Anyone : List ℕ → ℕ → ℕ → Type 0
Anyone S a i = Unit {0}

abbrev pub AnyState : {C : Type 0} → C → Type 0
AnyState c = Unit {0}

abbrev pub anywhere : (g : Grammar) → Ground g Anywhere Anyone
anywhere g = record { pops = λ _ _ _ _ _. tt; matches = λ _ _ _ _ _ _. tt; calls = λ _ _ _ _ _ _. tt; takes = λ _ _ _ _ _ _ _. tt }

-- a later state of the same kind
pub record Later {C : Type 0} (Holds : C → Type 0) (Grown : C → C → Type 0) (c d : C) : Type 0 where
  pub holds : Holds d
  pub grown : Grown c d

module _ {C : Type 0} (Holds : C → Type 0) (choose : Chooser C) where
  -- states of a kind stay of that kind
  abbrev pub KeepsKind : Type 0
  KeepsKind = (c : C) (S : List ℕ) (a i : ℕ) → Holds c → Holds (thence choose c S a i)

  -- from states of a kind, which it keeps, the chooser names an alternative that serves, wherever it is asked and one does
  pub record Reliable (g : Grammar) (w : List ℕ) (Waits : List ℕ → ℕ → ℕ → Type 0) : Type 0 where
    pub keeps : KeepsKind
    pub serves : (c : C) (S : List ℕ) (a i b : ℕ) → Holds c → Waits S a i → Serves g w S a i b
        → (d : ℕ) × (names choose c S a i ≡ some d) × Serves g w S a i d

  -- its states only grow; and over any later state it says the same again and leaves that state as it is
  pub record Repeats (Grown : C → C → Type 0) : Type 0 where
    pub keeps : KeepsKind
    pub same : (c : C) → Grown c c
    pub joined : (c d e : C) → Grown c d → Grown d e → Grown c e
    pub grows : (c : C) (S : List ℕ) (a i : ℕ) → Holds c → Grown c (thence choose c S a i)
    pub again : (c d : C) (S : List ℕ) (a i : ℕ) → Holds c → Holds d → Grown (thence choose c S a i) d
        → choose d S a i ≡ choice (names choose c S a i) d

-- two choosers that name the same alternative wherever they are asked and some alternative serves
abbrev pub Alike : {C D : Type 0} → (C → Type 0) → (D → Type 0) → Chooser C → Chooser D → Grammar → List ℕ
    → (List ℕ → ℕ → ℕ → Type 0) → Type 0
Alike {C} {D} HoldsC HoldsD one other g w Waits =
    (c : C) (d : D) (S : List ℕ) (a i : ℕ) → HoldsC c → HoldsD d → Waits S a i → Served g w S a i → names one c S a i ≡ names other d S a i
