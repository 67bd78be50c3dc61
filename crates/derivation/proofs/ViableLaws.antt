-- The beginnings of a note that some sentence has are those that reach a place, if what is left of every production derives something, as it does in
-- every grammar that passes refusal 6; and a note goes wrong at one position at most.
use mathlib.Core.Path.{◌≡◌, refl, sym, ap, ◌∙◌}
use mathlib.Core.Logic.{◌↔◌}
use mathlib.Core.Option.{some}
use mathlib.Core.List.{List, [], ◌∷◌, ◌++◌, append_assoc}
use Prim.Native.Nat.{ℕ, suc, ◌+◌, ◌≤◌, ◌<◌}
use native.Mathlib.Omega.{arith}
use native.Mathlib.Decide.{dec_lt}
use lib.ListN.{length, get_or, take, drop, length-append, take-append-drop}
use lib.Seq.{slice, slice_empty, length-take-le, take-take, get_or-drop}
use Rattle.grammar.specs.declared.Symbol.{Symbol}
use Rattle.grammar.specs.declared.Symbol.TheVariants.{Token, Nonterminal, End}
use Rattle.grammar.specs.declared.Place.{Place}
use Rattle.grammar.specs.Grammar.{Grammar, nowhere, facing, first, before, spell, suffix, of_places}
use Rattle.grammar.specs.Derivation.{Syntax, Leftmost, Derives}
use Rattle.grammar.proofs.GrammarLaws.{suffix-is, production-is, production-from, leftmost-append, admits-self}
use Rattle.closures.specs.Textbook.{Productive}
use Rattle.derivation.specs.inside.BigSteps.{Der, Split, spells, DerivesBy}
use Rattle.derivation.specs.Viable.{Sentence, Viable, WrongAt}
use Rattle.derivation.specs.inside.Reach.{Rich, Reach, start, match, call, return, Arrives}
use Rattle.derivation.proofs.Stretches.{take_get, slice_get, slice-append, take-slice, alike-take}
use Rattle.derivation.proofs.RunLaws.{der-le, run-empty, run-split, leftmost→run}
use Rattle.derivation.proofs.ReachLaws.{reach-alike, on-the-way}

-- ---- a big step as the textbook has it
pub der→leftmost : {g : Grammar} {w : List ℕ} {p i j : ℕ} {r : List ℕ} → Der g w p i j r → Leftmost (of_places g) (suffix g p) r (slice i j w)
der→leftmost {g} {w} (Der.finish {p = p} {i = i} e l) = rw (suffix-is g p, e, slice_empty) Leftmost.done
der→leftmost {g} {w} (Der.match {p = p} {i = i} {j = j} e d t x) =
    rw (suffix-is g p, e, slice_get w i j d (der-le x)) (Leftmost.match t (der→leftmost x))
der→leftmost {g} {w} (Der.expand {p = p} {a = a} {b = b} {i = i} {m = m} {j = j} e d x y) =
    rw (suffix-is g p, e, ← slice-append w i m j (der-le x) (der-le y))
    (Leftmost.expand (production-is g a b d) (leftmost-append (der→leftmost x) (der→leftmost y)))

-- ---- what is reached can go on to a sentence
rejoin : (a b c v v' : List ℕ) → a ++ b ≡ c → a ++ ((b ++ v) ++ v') ≡ c ++ (v ++ v')
rejoin a b c v v' e = rw (← e) (simp append_assoc)

-- the same sentence, its tokens put together in another way
regroup : {g : Syntax} (f h : List ℕ → List ℕ) → ((v : List ℕ) → f v ≡ h v) → (v : List ℕ) × Sentence g (f v) → (v : List ℕ)
    × Sentence g (h v)
regroup f h e (v, (r, x)) = (v, (r, rw (e v) at x))

module _ (g : Grammar) (w : List ℕ) (rich : Rich g) where
  -- whatever the place reached goes on to derive, a sentence goes on with
  goes_on : {p i : ℕ} → Reach g w p i → (r v : List ℕ) → Leftmost (of_places g) (suffix g p) r v → (v' : List ℕ)
      × Sentence (of_places g) (take i w ++ (v ++ v'))
  goes_on (start b e) r v x = ([], (b ∷ (r ++ []), Leftmost.expand (production-is g 0 b e) (leftmost-append x Leftmost.done)))
  goes_on (match {p = p} {k = k} {t = t} {i = i} h e d a) r v x =
      let (v', (s, y)) = goes_on h r (t ∷ v) (rw (suffix-is g p, e) (Leftmost.match a x)) in
      (v', (s, rw (take_get w i d, append_assoc) y))
  goes_on (call {p = p} {a = a} {f = f} {i = i} b h e d) r v x =
      let (v₂, (r₂, z)) = rich (suc p) in
      let (v', (s, y)) = goes_on h (b ∷ (r ++ r₂)) (v ++ v₂) (rw (suffix-is g p, e) (Leftmost.expand (production-is g a b d) (leftmost-append x z))) in
      (v₂ ++ v', (s, rw append_assoc at y))
  goes_on (return {p = p} {a = a} {f = f} {i = i} {m = m} {r = r₁} b h e d z) r v x =
      regroup (λ v'. take i w ++ ((slice i m w ++ v) ++ v')) (λ v'. take m w ++ (v ++ v'))
      (λ v'. rejoin (take i w) (slice i m w) (take m w) v v' (take-slice w i m (der-le z)))
      (goes_on h (b ∷ (r₁ ++ r)) (slice i m w ++ v)
      (rw (suffix-is g p, e) (Leftmost.expand (production-is g a b d) (leftmost-append (der→leftmost z) x))))

  pub reach→viable : {p k : ℕ} → Reach g w p k → Viable (of_places g) (take k w)
  reach→viable {p} h = let (v, (r, x)) = rich p in let (v', s) = goes_on h r v x in (v ++ v', s)

-- ---- a sentence is a big step of a production of the start symbol
abbrev pub StartStep : Grammar → List ℕ → Type 0
StartStep g w = (b : ℕ) × (f : ℕ) × (first g 0 b ≡ some f) × DerivesBy g w f 0 (length w)

sentence-from : {g : Grammar} {w : List ℕ} (b : ℕ) {β : List Symbol} {r : List ℕ} → Leftmost (of_places g) (β ++ []) r w
    → (f : ℕ) × (first g 0 b ≡ some f) × (suffix g f ≡ β) → StartStep g w
unfolding spells
sentence-from {g} {w} b {β} {r} x (f, d, q) = whole ((run-split f [] 0 (length w) r).0 (leftmost→run x (f ∷ []) 0 (rw q) refl (omega arith)))
  where
    whole : Split g w f [] 0 (length w) r → StartStep g w
    whole (m, r₁, r₂, y, z, e) = (b, f, d, (r₁, rw (run-empty z) at y))

pub sentence-der : {g : Grammar} {w : List ℕ} {r : List ℕ} → Leftmost (of_places g) (Nonterminal 0 ∷ []) r w → StartStep g w
sentence-der {g} (Leftmost.expand {b = b} e x) = sentence-from b x (production-from g 0 b e)

module _ (g : Grammar) (w : List ℕ) (k : ℕ) (h : k ≤ length w) where
  reached : (v : List ℕ) → StartStep g (take k w ++ v) → Arrives g w k
  reached v (b, f, e, (r, x)) = back (on-the-way x (start b e) k (omega arith) (omega (arith, length-append (take k w) v, length-take-le k w h)))
    where
      back : Arrives g (take k w ++ v) k → Arrives g w k
      back (q, y) = (q, reach-alike y k (omega arith) (alike-take w v k h))

  -- what a sentence begins with reaches some place, with no condition on the grammar
  pub viable→reach : Viable (of_places g) (take k w) → Arrives g w k
  viable→reach (v, (r, x)) = reached v (sentence-der x)

  pub viable-iff : Rich g → Viable (of_places g) (take k w) ↔ Arrives g w k
  viable-iff rich = (viable→reach, λ s. reach→viable g w rich s.1)

-- ---- refusal 6: every nonterminal that is named derives something, hence so does what is left of every production
-- the nonterminals that a row of places names
abbrev Named : Grammar → List Place → Type 0
Named g l = (q a : ℕ) → (get_or l q nowhere).symbol ≡ Nonterminal a → a < length g.starts

module _ (g : Grammar) (all : (a : ℕ) → a < length g.starts → Productive (of_places g) a) where
  spelt : (l : List Place) → Named g l → (v : List ℕ) × Derives (of_places g) (spell l) v
  unfolding spell
  spelt [] h = ([], ([], Leftmost.done))
  spelt (x ∷ l) h = go x.symbol refl (spelt l (λ q a e. h (suc q) a e))
    where
      also : {a : ℕ} → Productive (of_places g) a → (v : List ℕ) × Derives (of_places g) (spell l) v
          → (v : List ℕ) × Derives (of_places g) (Nonterminal a ∷ spell l) v
      also (u, (s, y)) (v, (r, z)) = (u ++ v, (s ++ r, leftmost-append y z))

      go : (s : Symbol) → x.symbol ≡ s → (v : List ℕ) × Derives (of_places g) (spell l) v → (v : List ℕ) × Derives (of_places g) (before s (spell l)) v
      go (Token k) e (v, (r, z)) = (k ∷ v, (r, Leftmost.match (admits-self g k) z))
      go (Nonterminal a) e rest = also (all a (h 0 a e)) rest
      go End e rest = ([], ([], Leftmost.done))

  pub rich : ((p a : ℕ) → facing g p ≡ Nonterminal a → a < length g.starts) → Rich g
  unfolding suffix facing
  rich named p = spelt (drop p g.places) (λ q a e. named (p + q) a (ap (λ (x : Place). x.symbol) (sym (get_or-drop p g.places q nowhere)) ∙ e))

-- ---- beginnings of sentences in the textbook's words
module _ {g : Syntax} where
  -- what some sentence begins with, begins with what some sentence begins with
  pub viable-front : (u v : List ℕ) → Viable g (u ++ v) → Viable g u
  viable-front u v (v', (r, x)) = (v ++ v', (r, rw append_assoc at x))

  pub viable-shorter : (w : List ℕ) (k m : ℕ) → k ≤ m → Viable g (take m w) → Viable g (take k w)
  viable-shorter w k m l h =
      let e : take k w ++ drop k (take m w) ≡ take m w = ap (λ (u : List ℕ). u ++ drop k (take m w)) (sym (take-take k m w l))
      ∙ take-append-drop k (take m w) in
      viable-front (take k w) (drop k (take m w)) (rw e h)

  wrong-most : {w : List ℕ} {k m : ℕ} → WrongAt g w k → WrongAt g w m → ¬ (k < m)
  wrong-most {w} {k} {m} x y l = let n = y.inside in x.ends (omega arith) (viable-shorter w (suc k) m l y.begins)

  -- a note goes wrong at one position at most
  pub wrong-unique : {w : List ℕ} {k m : ℕ} → WrongAt g w k → WrongAt g w m → k ≡ m
  wrong-unique {w} {k} {m} x y = go (dec_lt k m) (dec_lt m k)
    where
      go : Dec (k < m) → Dec (m < k) → k ≡ m
      go (yes l) b = absurd (wrong-most x y l)
      go (no l) (yes h) = absurd (wrong-most y x h)
      go (no l) (no h) = omega arith
