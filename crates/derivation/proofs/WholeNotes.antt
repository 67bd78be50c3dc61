-- Whole notes: runs over a note and its end mark are the textbook derivations of the note.
use mathlib.Core.Path.{◌≡◌, refl, sym, ap, ◌∙◌}
use mathlib.Core.Logic.{◌↔◌}
use mathlib.Core.Option.{some}
use mathlib.Core.List.{List, [], ◌∷◌, ◌++◌, append-nil, append_assoc}
use Prim.Native.Nat.{ℕ, suc}
use native.Mathlib.Omega.{arith}
use lib.ListN.{length}
use Rattle.base.proofs.Booleans.{clash}
use Rattle.grammar.specs.declared.Symbol.{Symbol}
use Rattle.grammar.specs.declared.Symbol.TheVariants.{Token, Nonterminal, End}
use Rattle.grammar.specs.Limits.{end_place, end_mark}
use Rattle.grammar.specs.Grammar.{Grammar, facing, first, suffix, of_places}
use Rattle.grammar.specs.Derivation.{Syntax, Leftmost, Derives}
use Rattle.grammar.proofs.GrammarLaws.{suffix-is, production-is, production-from, admits-self, leftmost-append}
use Rattle.derivation.specs.Runs.{Run, marked}
use Rattle.derivation.specs.inside.BigSteps.{ReadsWhole, spells}
use Rattle.derivation.proofs.Notes.{snoc-same}
use Rattle.derivation.proofs.RunLaws.{run→leftmost, leftmost→run}

-- ---- one token more at the end of what is derived
-- what derives α and then kind k: a derivation of α, and one token behind it
abbrev pub Before : Syntax → List Symbol → List ℕ → List ℕ → Type 0
Before g α r v = (w : List ℕ) × (t : ℕ) × (v ≡ w ++ (t ∷ [])) × Leftmost g α r w

module _ {g : Syntax} where
  nil-only : {γ : List Symbol} {r v : List ℕ} (t : ℕ) → Leftmost g γ r v → γ ≡ [] → Before g [] r (t ∷ v)
  nil-only t Leftmost.done e = ([], t, refl, Leftmost.done)
  nil-only t (Leftmost.match c x) e = clash (cc)
  nil-only t (Leftmost.expand c x) e = clash (cc)

  pub leftmost-before : {γ : List Symbol} {r v : List ℕ} → Leftmost g γ r v → (α : List Symbol) (k : ℕ) → γ ≡ α ++ (Token k ∷ [])
      → Before g α r v
  leftmost-before Leftmost.done [] k e = clash (cc)
  leftmost-before Leftmost.done (y ∷ α) k e = clash (cc)
  leftmost-before (Leftmost.match {t = t} c x) [] k e = nil-only t x (cc)
  leftmost-before (Leftmost.match {k = k'} {t = t} {α = γ} {r = r} {w = v} c x) (y ∷ α) k e = go (leftmost-before x α k (cc))
    where
      go : Before g α r v → Before g (y ∷ α) r (t ∷ v)
      go (w, u, q, z) = let h : y ≡ Token k' = cc in (t ∷ w, u, rw q, rw h (Leftmost.match c z))
  leftmost-before (Leftmost.expand c x) [] k e = clash (cc)
  leftmost-before (Leftmost.expand {a = a} {b = b} {β = β} {α = γ} {r = r} {w = v} c x) (y ∷ α) k e =
      let d : γ ≡ α ++ (Token k ∷ []) = cc in
      go (leftmost-before x (β ++ α) k (ap (λ (l : List Symbol). β ++ l) d ∙ sym (append_assoc β α (Token k ∷ []))))
    where
      go : Before g (β ++ α) r v → Before g (y ∷ α) (b ∷ r) v
      go (w, u, q, z) = let h : y ≡ Nonterminal a = cc in (w, u, q, rw h (Leftmost.expand c z))

  -- the token taken away
  unmark : {α : List Symbol} {r : List ℕ} (w : List ℕ) (t : ℕ) → Before g α r (w ++ (t ∷ [])) → Leftmost g α r w
  unmark w t (v, u, q, z) = rw (snoc-same w v t u q).0 z

-- a token that kind k admits, put behind or taken away
pub leftmost-mark : (g : Grammar) (α : List Symbol) (k : ℕ) (r w : List ℕ)
    → Leftmost (of_places g) (α ++ (Token k ∷ [])) r (w ++ (k ∷ [])) ↔ Leftmost (of_places g) α r w
leftmost-mark g α k r w =
    (λ x. unmark w k (leftmost-before x α k refl), λ x. rw append-nil at (leftmost-append x (Leftmost.match (admits-self g k) Leftmost.done)))

-- ---- the end place faces the end mark, and nothing stands behind it
module _ (g : Grammar) (ends : facing g end_place ≡ Token end_mark) (last : facing g (suc end_place) ≡ End) where
  spells-whole : (f : ℕ) → spells g (f ∷ end_place ∷ []) ≡ suffix g f ++ (Token end_mark ∷ [])
  unfolding spells
  spells-whole f = rw (suffix-is g end_place, ends, suffix-is g (suc end_place), last)

  -- a production's first place over the end place reads a marked note just as the production derives the note
  pub whole_run : (f : ℕ) (r w : List ℕ) → Run g (marked w) (f ∷ end_place ∷ []) 0 (length (marked w)) r ↔ Leftmost (of_places g) (suffix g f) r w
  whole_run f r w = (
    λ x. (leftmost-mark g (suffix g f) end_mark r w).0 (rw (spells-whole f) at (run→leftmost x refl)),
    λ x. leftmost→run ((leftmost-mark g (suffix g f) end_mark r w).1 x) (f ∷ end_place ∷ []) 0 (spells-whole f) refl (omega arith),
  )

  call-whole : (a b : ℕ) (r w : List ℕ) {γ : List Symbol} {s : List ℕ} → Leftmost (of_places g) γ s w → γ ≡ Nonterminal a ∷ [] → s ≡ b ∷ r
      → ReadsWhole g a b r w
  call-whole a b r w Leftmost.done q d = clash (cc)
  call-whole a b r w (Leftmost.match c x) q d = clash (cc)
  call-whole a b r w (Leftmost.expand {a = a'} {b = b'} {β = β} {α = α} {r = r'} c x) q d =
      let h : a' ≡ a = cc in
      let k : b' ≡ b = cc in
      let n : α ≡ [] = cc in
      let z : r' ≡ r = cc in
      go (production-from g a b (rw (h, k) at c)) (rw (n, append-nil, z) at x)
    where
      go : (f : ℕ) × (first g a b ≡ some f) × (suffix g f ≡ β) → Leftmost (of_places g) β r w → ReadsWhole g a b r w
      go (f, e, q) y = (f, e, (whole_run f r w).1 (rw q y))

  no_call : {a : ℕ} {γ : List Symbol} {s w : List ℕ} → Leftmost (of_places g) γ s w → γ ≡ Nonterminal a ∷ [] → s ≡ [] → ⊥
  no_call Leftmost.done q d = clash (cc)
  no_call (Leftmost.match c x) q d = clash (cc)
  no_call (Leftmost.expand c x) q d = clash (cc)

  -- such runs are the textbook derivations of a that begin with b
  pub whole-call : (a b : ℕ) (r w : List ℕ) → ReadsWhole g a b r w ↔ Leftmost (of_places g) (Nonterminal a ∷ []) (b ∷ r) w
  whole-call a b r w = (to, λ x. call-whole a b r w x refl refl)
    where
      to : ReadsWhole g a b r w → Leftmost (of_places g) (Nonterminal a ∷ []) (b ∷ r) w
      to (f, e, x) = Leftmost.expand {α = []} {r = r} {w = w} (production-is g a b e) (rw append-nil ((whole_run f r w).0 x))

  pub whole-sentence : (a : ℕ) (w : List ℕ) → ((b : ℕ) × (r : List ℕ) × ReadsWhole g a b r w) ↔ Derives (of_places g) (Nonterminal a ∷ []) w
  whole-sentence a w = (λ h. (h.0 ∷ h.1, (whole-call a h.0 h.1 w).0 h.2), λ h. some-call h.0 h.1)
    where
      some-call : (s : List ℕ) → Leftmost (of_places g) (Nonterminal a ∷ []) s w → (b : ℕ) × (r : List ℕ) × ReadsWhole g a b r w
      some-call [] x = absurd (no_call x refl refl)
      some-call (b ∷ r) x = (b, r, (whole-call a b r w).1 x)
