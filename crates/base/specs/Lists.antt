-- Lists.
use mathlib.Core.List.{List, [], ◌∷◌, Memᴰ}

-- every element of a list has a property
abbrev pub AllOf : {A : Type 0} → (A → Type 0) → List A → Type 0
AllOf P [] = Unit {0}
AllOf P (x ∷ l) = P x × AllOf P l

-- no member stands again later in the list
pub data Distinct {A : Type 0} : List A → Type 0 where
  nil : Distinct []
  also : {x : A} {l : List A} → ¬ Memᴰ x l → Distinct l → Distinct (x ∷ l)
