-- The chosen derivation is a leftmost derivation, and there is at most one; an end mark behind it changes nothing.
use mathlib.Core.Path.{◌≡◌, refl, sym, ap, ◌∙◌}
use mathlib.Core.Option.{some}
use mathlib.Core.List.{List, [], ◌∷◌, ◌++◌, append_assoc}
use Prim.Native.Nat.{ℕ, ◌<◌}
use native.Mathlib.Omega.{arith}
use native.Mathlib.Decide.{dec_lt}
use Rattle.base.proofs.Booleans.{clash}
use Rattle.grammar.specs.declared.Symbol.{Symbol}
use Rattle.grammar.specs.declared.Symbol.TheVariants.{Token, Nonterminal}
use Rattle.grammar.specs.Grammar.{Grammar, of_places}
use Rattle.grammar.specs.Derivation.{Syntax, Leftmost, Derives}
use Rattle.grammar.proofs.GrammarLaws.{admits-self}
use Rattle.derivation.specs.Chosen.{Chosen}
use Rattle.derivation.proofs.Notes.{no-snoc}
use Rattle.derivation.proofs.WholeNotes.{leftmost-mark, leftmost-before}

pub chosen→leftmost : {g : Syntax} {α : List Symbol} {r w : List ℕ} → Chosen g α r w → Leftmost g α r w
chosen→leftmost Chosen.done = Leftmost.done
chosen→leftmost (Chosen.match c x) = Leftmost.match c (chosen→leftmost x)
chosen→leftmost (Chosen.expand e l x) = Leftmost.expand e (chosen→leftmost x)

-- no lower alternative serves
abbrev pub NoneLower : Syntax → ℕ → ℕ → List Symbol → List ℕ → Type 0
NoneLower g a b α w = (c : ℕ) (γ : List Symbol) → c < b → g.production a c ≡ some γ → ¬ Derives g (γ ++ α) w

-- a chosen derivation that begins with an expansion of a
pub record Expanded (g : Syntax) (a : ℕ) (α : List Symbol) (s v : List ℕ) : Type 0 where
  pub alternative : ℕ
  pub symbols : List Symbol
  pub rest : List ℕ
  pub stands : g.production a alternative ≡ some symbols
  pub lowest : NoneLower g a alternative α v
  pub remaining : Chosen g (symbols ++ α) rest v
  pub row : s ≡ alternative ∷ rest

-- ---- how a chosen derivation goes on, by what it derives from
module _ {g : Syntax} where
  chosen-nil : {γ : List Symbol} {s v : List ℕ} → Chosen g γ s v → γ ≡ [] → s ≡ []
  chosen-nil Chosen.done e = refl
  chosen-nil (Chosen.match c x) e = clash (cc)
  chosen-nil (Chosen.expand c l x) e = clash (cc)

  chosen_none : {γ : List Symbol} {s v : List ℕ} → Chosen g γ s v → γ ≡ [] → v ≡ []
  chosen_none Chosen.done e = refl
  chosen_none (Chosen.match c x) e = clash (cc)
  chosen_none (Chosen.expand c l x) e = clash (cc)

  pub chosen-token : {γ α : List Symbol} {s v w : List ℕ} {k t : ℕ} → Chosen g γ s v → γ ≡ Token k ∷ α → v ≡ t ∷ w → Chosen g α s w
  chosen-token Chosen.done e d = clash (cc)
  chosen-token {α = α} {w = w} (Chosen.match {α = α'} {w = w'} c x) e d = let p : α' ≡ α = cc in let q : w' ≡ w = cc in rw (p, q) at x
  chosen-token (Chosen.expand c l x) e d = clash (cc)

  pub chosen-call : {γ α : List Symbol} {s v : List ℕ} {a : ℕ} → Chosen g γ s v → γ ≡ Nonterminal a ∷ α → Expanded g a α s v
  chosen-call Chosen.done e = clash (cc)
  chosen-call (Chosen.match c x) e = clash (cc)
  chosen-call {α = α} {a = a} (Chosen.expand {a = a'} {b = b} {β = β} {α = α'} {r = r} c l x) e =
      let p : α' ≡ α = cc in
      let q : a' ≡ a = cc in
      record {
        alternative = b;
        symbols = β;
        rest = r;
        stands = rw q at c;
        lowest = rw (p, q) at l;
        remaining = rw p at x;
        row = refl;
      }

  -- the lowest alternative that serves is one
  pub same-lowest : (a b c : ℕ) {α β γ : List Symbol} {w : List ℕ} → g.production a b ≡ some β → NoneLower g a b α w → Derives g (β ++ α) w
      → g.production a c ≡ some γ → NoneLower g a c α w → Derives g (γ ++ α) w → b ≡ c
  same-lowest a b c {α} {β} {γ} eb lb xb ec lc xc = go (dec_lt b c) (dec_lt c b)
    where
      go : Dec (b < c) → Dec (c < b) → b ≡ c
      go (yes h) k = absurd (lc b β h eb xb)
      go (no h) (yes k) = absurd (lb c γ k ec xc)
      go (no h) (no k) = omega arith

  chosen-derives : {α : List Symbol} {r w : List ℕ} → Chosen g α r w → Derives g α w
  chosen-derives {r = r} x = (r, chosen→leftmost x)

  -- ---- there is at most one
  pub chosen-unique : {α : List Symbol} {r w : List ℕ} → Chosen g α r w → (s : List ℕ) → Chosen g α s w → r ≡ s
  chosen-unique Chosen.done s y = sym (chosen-nil y refl)
  chosen-unique (Chosen.match c x) s y = chosen-unique x s (chosen-token y refl refl)
  chosen-unique (Chosen.expand {a = a} {b = b} {β = β} {α = α} {r = r} {w = w} e l x) s y = go (chosen-call y refl) (chosen-unique x)
    where
      go : Expanded g a α s w → ((s : List ℕ) → Chosen g (β ++ α) s w → r ≡ s) → b ∷ r ≡ s
      go d rec =
          let q : b ≡ d.alternative = same-lowest a b d.alternative e l (chosen-derives x) d.stands d.lowest (chosen-derives d.remaining) in
          let h : g.production a b ≡ some d.symbols = rw q d.stands in
          let z : β ≡ d.symbols = cc in
          let u = rec d.rest (rw z d.remaining) in
          cc d.row

-- ---- with a token behind what is derived
module _ (g : Grammar) where
  pub chosen-mark : (k : ℕ) {α : List Symbol} {r w : List ℕ} → Chosen (of_places g) α r w → Chosen (of_places g) (α ++ (Token k ∷ [])) r (w ++ (k ∷ []))
  chosen-mark k Chosen.done = Chosen.match (admits-self g k) Chosen.done
  chosen-mark k (Chosen.match c x) = Chosen.match c (chosen-mark k x)
  chosen-mark k (Chosen.expand {β = β} {α = α} {w = w} e l x) =
      Chosen.expand e (λ c γ h d s. l c γ h d (s.0, (leftmost-mark g (γ ++ α) k s.0 w).0 (rw append_assoc s.1))) (rw append_assoc at (chosen-mark k x))

  none_left : (k : ℕ) (α : List Symbol) {r : List ℕ} → Leftmost (of_places g) (α ++ (Token k ∷ [])) r [] → ⊥
  none_left k α x = go (leftmost-before x α k refl)
    where
      go : {r : List ℕ} → (w : List ℕ) × (t : ℕ) × ([] ≡ w ++ (t ∷ [])) × Leftmost (of_places g) α r w → ⊥
      go (w, t, e, z) = no-snoc w t e

  pub chosen-unmark : (k : ℕ) {γ : List Symbol} {r v : List ℕ} → Chosen (of_places g) γ r v → (α : List Symbol) (w : List ℕ) → γ
      ≡ α ++ (Token k ∷ []) → v ≡ w ++ (k ∷ [])
      → Chosen (of_places g) α r w
  chosen-unmark k Chosen.done [] w e d = clash (cc)
  chosen-unmark k Chosen.done (y ∷ α) w e d = clash (cc)
  chosen-unmark k (Chosen.match {α = γ} {w = v} c x) [] [] e d = let p : γ ≡ [] = cc in let q : v ≡ [] = cc in rw (p, q) at x
  chosen-unmark k (Chosen.match {α = γ} {w = v} c x) [] (u ∷ w) e d =
      let p : v ≡ [] = chosen_none x (cc) in
      let q : v ≡ w ++ (k ∷ []) = cc in
      absurd (no-snoc w k (sym p ∙ q))
  chosen-unmark k (Chosen.match {k = k'} {t = t} {α = γ} {r = r} {w = v} c x) (y ∷ α) [] e d =
      let p : γ ≡ α ++ (Token k ∷ []) = cc in
      let q : v ≡ [] = cc in
      absurd (none_left k α (chosen→leftmost (rw (p, q) at x)))
  chosen-unmark k (Chosen.match {k = k'} {t = t} c x) (y ∷ α) (u ∷ w) e d =
      let p : y ≡ Token k' = cc in
      let q : u ≡ t = cc in
      rw (p, q) (Chosen.match c (chosen-unmark k x α w (cc) (cc)))
  chosen-unmark k (Chosen.expand c l x) [] w e d = clash (cc)
  chosen-unmark k (Chosen.expand {a = a} {β = β} {α = γ} {w = v} c l x) (y ∷ α) w e d =
      let p : y ≡ Nonterminal a = cc in
      let q : γ ≡ α ++ (Token k ∷ []) = cc in
      rw p
      (Chosen.expand c
      (λ n δ h f s. l n δ h f (s.0, rw (q, d, ← append_assoc) ((leftmost-mark g (δ ++ α) k s.0 w).1 s.1)))
      (chosen-unmark k x (β ++ α) w (ap (λ (z : List Symbol). β ++ z) q ∙ sym (append_assoc β α (Token k ∷ []))) d))
