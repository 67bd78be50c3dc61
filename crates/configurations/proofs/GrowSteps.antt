-- From one addition to a list of them, as the code's loops make them: what is left gives the same end.
use mathlib.Core.Path.{◌≡◌, refl, sym, subst, ap, ◌∙◌}
use mathlib.Core.Option.{Option, none, some}
use mathlib.Core.List.{List, [], ◌∷◌, ◌++◌}
use Prim.Native.Nat.{ℕ}
use Rattle.configurations.specs.declared.config.Packed.{Packed}
use Rattle.std.specs.Prelude.{Some, None}
use Rattle.lookahead.specs.Configs.{Config}
use Rattle.lookahead.specs.Closing.{add, add_all}
use Rattle.configurations.specs.inside.Packed.{config_of, Packs}
use Rattle.configurations.specs.inside.Held.{Added, configs_from, Room, held_after, RoomAfter, Grows}

-- what follows an answer
abbrev pub then : Option (List Config) → (List Config → Option (List Config)) → Option (List Config)
then none k = none
then (some ms) k = k ms

-- ---- answers
pub grow-room : {r : Added} {ws : List ℕ} {o : Option (List Config)} → Grows r ws o → (m : ℕ) → r ≡ Some m → Room ws m
unfolding RoomAfter
grow-room {r} {ws} g m e = subst (λ (y : Added). RoomAfter y ws) e g.room

pub grow-cast : {r : Added} {ws : List ℕ} {o p : Option (List Config)} → o ≡ p → Grows r ws o → Grows r ws p
grow-cast e g = record { is = g.is ∙ e; room = g.room }

pub grow-count : (ws : List ℕ) (n : ℕ) {o : Option (List Config)} → Room ws n → some (configs_from ws 0 n) ≡ o → Grows (Some n) ws o
unfolding held_after RoomAfter
grow-count ws n room e = record { is = e; room = room }

-- the answer is taken, and k follows
module _ {r : Added} {ws : List ℕ} {o : Option (List Config)} (g : Grows r ws o)
    (k : List Config → Option (List Config)) {end : Option (List Config)} (h : then o k ≡ end) where
  pub then-on : (m : ℕ) → r ≡ Some m → k (configs_from ws 0 m) ≡ end
  unfolding held_after
  then-on m e =
      let q : some (configs_from ws 0 m) ≡ o = subst (λ (y : Added). held_after y ws ≡ o) e g.is in
      ap (λ (x : Option (List Config)). then x k) q ∙ h

  pub then-stop : r ≡ None → {ws' : List ℕ} → Grows None ws' end
  unfolding held_after RoomAfter
  then-stop e =
      let q : none ≡ o = subst (λ (y : Added). held_after y ws ≡ o) e g.is in
      record { is = ap (λ (x : Option (List Config)). then x k) q ∙ h; room = tt }

-- ---- a list of additions
pub add_all-cons : (ms : List Config) (d : Config) (ds : List Config) → add_all ms (d ∷ ds) ≡ then (add ms d) (λ m. add_all m ds)
unfolding add_all
add_all-cons ms d ds = go (add ms d)
  where
    go : (o : Option (List Config)) → (elim o as (λ _. Option (List Config)) [ none ↦ none | some m ↦ add_all m ds ]) ≡ then o (λ m. add_all m ds)
    go none = refl
    go (some m) = refl

pub add_all-none : (ms : List Config) → add_all ms [] ≡ some ms
unfolding add_all
add_all-none ms = refl

pub add_all-one : (ms : List Config) (d : Config) → add_all ms (d ∷ []) ≡ add ms d
add_all-one ms d = add_all-cons ms d [] ∙ go (add ms d)
  where
    go : (o : Option (List Config)) → then o (λ m. add_all m []) ≡ o
    go none = refl
    go (some m) = add_all-none m

pub add_all-append : (ds es ms : List Config) → add_all ms (ds ++ es) ≡ then (add_all ms ds) (λ m. add_all m es)
add_all-append [] es ms = ap (λ (o : Option (List Config)). then o (λ m. add_all m es)) (sym (add_all-none ms))
add_all-append (d ∷ ds) es ms = add_all-cons ms d (ds ++ es) ∙ go (add ms d) (λ m. add_all-append ds es m)
    ∙ ap (λ (o : Option (List Config)). then o (λ m. add_all m es)) (sym (add_all-cons ms d ds))
  where
    go : (o : Option (List Config)) → ((m : List Config) → add_all m (ds ++ es) ≡ then (add_all m ds) (λ m. add_all m es))
        → then o (λ m. add_all m (ds ++ es)) ≡ then (then o (λ m. add_all m ds)) (λ m. add_all m es)
    go none rec = refl
    go (some m) rec = rec m

-- a packed configuration added is the one that it packs
pub grow-packs : {r : Added} {ws : List ℕ} {c : Packed} {d : Config} (ms : List Config) → Packs c d → Grows r ws (add ms (config_of c))
    → Grows r ws (add ms d)
grow-packs ms p g = grow-cast (ap (add ms) p.is) g

-- ---- a loop over configurations
-- with the first n members, those that are left give the same end
pub record Left (ws : List ℕ) (n : ℕ) (l : List Config) (end : Option (List Config)) : Type 0 where
  pub room : Room ws n
  pub same : add_all (configs_from ws 0 n) l ≡ end

module _ {ws : List ℕ} {n : ℕ} {l : List Config} {end : Option (List Config)} (h : Left ws n l end) where
  pub left_by : {m : List Config} → l ≡ m → Left ws n m end
  left_by e = record { room = h.room; same = ap (add_all (configs_from ws 0 n)) (sym e) ∙ h.same }

  pub left-none : l ≡ [] → Grows (Some n) ws end
  left-none e = grow-count ws n h.room (sym (add_all-none (configs_from ws 0 n)) ∙ ap (add_all (configs_from ws 0 n)) (sym e) ∙ h.same)

  -- the first of them is added
  module _ {d : Config} {ds : List Config} (e : l ≡ d ∷ ds) {r : Added} {ws' : List ℕ} (g : Grows r ws' (add (configs_from ws 0 n) d)) where
    opened : then (add (configs_from ws 0 n) d) (λ m. add_all m ds) ≡ end
    opened = sym (add_all-cons (configs_from ws 0 n) d ds) ∙ ap (add_all (configs_from ws 0 n)) (sym e) ∙ h.same

    pub left-on : (m : ℕ) → r ≡ Some m → Left ws' m ds end
    left-on m q = record { room = grow-room g m q; same = then-on g (λ m. add_all m ds) opened m q }

    pub left-stop : r ≡ None → {ws'' : List ℕ} → Grows None ws'' end
    left-stop q = then-stop g (λ m. add_all m ds) opened q
