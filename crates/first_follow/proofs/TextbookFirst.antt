-- FIRST is what derivations say: if every nonterminal derives some row of tokens, a token is in FIRST of a nonterminal just if the nonterminal derives a row
-- that begins with it.
use mathlib.Core.Path.{◌≡◌, refl, sym, ◌∙◌}
use mathlib.Core.Logic.{◌⊎◌, inl, inr, ◌↔◌}
use mathlib.Core.Bool.{false, ◌&&◌}
use mathlib.Core.Option.{some}
use mathlib.Core.List.{List, [], ◌∷◌, ◌++◌, append-nil}
use Prim.Native.Nat.{ℕ, zero, suc, ◌+◌, ◌≤◌, ◌<◌}
use native.Mathlib.Omega.{arith}
use lib.Dec.{T}
use lib.ListN.{length}
use Rattle.base.proofs.Booleans.{clash, T_and}
use Rattle.base.proofs.Lists.{T-any_of}
use Rattle.grammar.specs.declared.Symbol.{Symbol}
use Rattle.grammar.specs.declared.Symbol.TheVariants.{Token, Nonterminal, End}
use Rattle.grammar.specs.Derivation.{Leftmost, Derives}
use Rattle.grammar.specs.Grammar.{Grammar, facing, before, admits, alternatives, first, suffix, of_places}
use Rattle.grammar.proofs.GrammarLaws.{suffix-is, production-is, production-from, first_pos, leftmost-append, admits-self}
use Rattle.closures.specs.Textbook.{Productive}
use Rattle.closures.specs.Closures.{passes, deriving_round, nullable?}
use Rattle.closures.proofs.Deriving.{round-within, nullable-iff}
use Rattle.first_follow.specs.FirstFollow.{Skips, here, over, First}
use Rattle.first_follow.proofs.SkipLaws.{Vanishing, skips-on}
use Rattle.first_follow.proofs.LinedLaws.{Lined, skips-within}

-- ---- from a derivation
-- a list may begin with t: behind only nonterminals that derive the empty row stands a token that admits it, or a nonterminal that has it in FIRST
data Starts (g : Grammar) (t : ℕ) : List Symbol → Type 0 where
  token : {k : ℕ} {α : List Symbol} → T (admits g k t) → Starts g t (Token k ∷ α)
  call : {c : ℕ} {α : List Symbol} → First g t c → Starts g t (Nonterminal c ∷ α)
  skip : {c : ℕ} {α : List Symbol} → T (nullable? g c) → Starts g t α → Starts g t (Nonterminal c ∷ α)

-- a production all of whose symbols derive the empty row
empties : (g : Grammar) (a b f : ℕ) → first g a b ≡ some f → T (passes false (nullable? g) (suffix g f)) → T (nullable? g a)
unfolding deriving_round
empties g a b f d s =
    let (n, e) = first_pos g a b f d in
    round-within false g (nullable? g) (λ c x. x) a (T-any_of (λ f. passes false (nullable? g) (suffix g f)) (alternatives g a) n e s)

module _ {g : Grammar} {t : ℕ} where
  -- in a list of two parts it begins the first, or the first may be empty and it begins the second
  starts-split : (β α : List Symbol) → Starts g t (β ++ α) → Starts g t β ⊎ (T (passes false (nullable? g) β) × Starts g t α)
  unfolding passes
  starts-split [] α s = inr (tt, s)
  starts-split (Token k ∷ β) α (token m) = inl (token m)
  starts-split (Nonterminal c ∷ β) α (call x) = inl (call x)
  starts-split (Nonterminal c ∷ β) α (skip n s) = go (starts-split β α s)
    where
      go : Starts g t β ⊎ (T (passes false (nullable? g) β) × Starts g t α)
          → Starts g t (Nonterminal c ∷ β) ⊎ (T (nullable? g c && passes false (nullable? g) β) × Starts g t α)
      go (inl x) = inl (skip n x)
      go (inr (p, x)) = inr (T_and (nullable? g c) (passes false (nullable? g) β) n p, x)
  starts-split (End ∷ β) α s = elim s [ ]

  -- what begins a production is in FIRST of its nonterminal
  starts_first : (a b f : ℕ) → first g a b ≡ some f → {α : List Symbol} → Starts g t α → (p : ℕ) → Skips g f p → α ≡ suffix g p → First g t a
  starts_first a b f d (token {k = k} {α = α} m) p s e = go (facing g p) refl
    where
      go : (x : Symbol) → facing g p ≡ x → First g t a
      go (Token c) z =
          let y : Token k ∷ α ≡ before (facing g p) (suffix g (suc p)) = e ∙ suffix-is g p in
          let u : k ≡ c = cc in First.token b d s z (rw u at m)
      go (Nonterminal c) z = let y : Token k ∷ α ≡ before (facing g p) (suffix g (suc p)) = e ∙ suffix-is g p in clash (cc)
      go End z = let y : Token k ∷ α ≡ before (facing g p) (suffix g (suc p)) = e ∙ suffix-is g p in clash (cc)
  starts_first a b f d (call {c = c} {α = α} x) p s e = go (facing g p) refl
    where
      go : (y : Symbol) → facing g p ≡ y → First g t a
      go (Token k) z = let y : Nonterminal c ∷ α ≡ before (facing g p) (suffix g (suc p)) = e ∙ suffix-is g p in clash (cc)
      go (Nonterminal c') z =
          let y : Nonterminal c ∷ α ≡ before (facing g p) (suffix g (suc p)) = e ∙ suffix-is g p in
          let u : c ≡ c' = cc in First.call b d s z (rw u at x)
      go End z = let y : Nonterminal c ∷ α ≡ before (facing g p) (suffix g (suc p)) = e ∙ suffix-is g p in clash (cc)
  starts_first a b f d (skip {c = c} {α = α} n x) p s e = go (facing g p) refl (λ s' e'. starts_first a b f d x (suc p) s' e')
    where
      go : (y : Symbol) → facing g p ≡ y → (Skips g f (suc p) → α ≡ suffix g (suc p) → First g t a) → First g t a
      go (Token k) z rec = let y : Nonterminal c ∷ α ≡ before (facing g p) (suffix g (suc p)) = e ∙ suffix-is g p in clash (cc)
      go (Nonterminal c') z rec =
          let y : Nonterminal c ∷ α ≡ before (facing g p) (suffix g (suc p)) = e ∙ suffix-is g p in
          let u : c ≡ c' = cc in
          let v : Vanishing g p = record { which = c'; calls = z; empty = rw u at n } in rec (skips-on s v) (cc)
      go End z rec = let y : Nonterminal c ∷ α ≡ before (facing g p) (suffix g (suc p)) = e ∙ suffix-is g p in clash (cc)

  derives-starts : {α : List Symbol} {r v w : List ℕ} → Leftmost (of_places g) α r v → v ≡ t ∷ w → Starts g t α
  derives-starts Leftmost.done e = clash (cc)
  derives-starts (Leftmost.match {t = u} m x) e = let z : u ≡ t = cc in token (rw z at m)
  derives-starts (Leftmost.expand {a = a} {b = b} {β = β} {α = α} e x) z =
      go (production-from g a b e) (starts-split β α (derives-starts x z))
    where
      go : (f : ℕ) × (first g a b ≡ some f) × (suffix g f ≡ β) → Starts g t β ⊎ (T (passes false (nullable? g) β) × Starts g t α)
          → Starts g t (Nonterminal a ∷ α)
      go (f, d, q) (inl s) = call (starts_first a b f d s f here (sym q))
      go (f, d, q) (inr (p, s)) = skip (empties g a b f d (rw q p)) s

-- ---- to a derivation
module _ {g : Grammar} (L : Lined g) (fertile : (a : ℕ) → a < length g.starts → Productive (of_places g) a) where
  -- what is left of a production derives some row
  rest : (d p : ℕ) → g.size ≤ p + d → p < g.size → (w : List ℕ) × Derives (of_places g) (suffix g p) w
  rest zero p l m = absurd (omega arith)
  rest (suc d) p l m = rw (suffix-is g p) (go (facing g p) refl (λ n. rest d (suc p) (omega arith) (L.within-next p m n)))
    where
      joined : (c : ℕ) → Productive (of_places g) c → (w : List ℕ) × Derives (of_places g) (suffix g (suc p)) w
          → (w : List ℕ) × Derives (of_places g) (Nonterminal c ∷ suffix g (suc p)) w
      joined c (w, (r, x)) (v, (s, y)) = (w ++ v, (r ++ s, leftmost-append x y))

      matched : (k : ℕ) → (w : List ℕ) × Derives (of_places g) (suffix g (suc p)) w → (w : List ℕ) × Derives (of_places g) (Token k ∷ suffix g (suc p)) w
      matched k (w, (r, x)) = (k ∷ w, (r, Leftmost.match (admits-self g k) x))

      go : (s : Symbol) → facing g p ≡ s → (¬ (facing g p ≡ End) → (w : List ℕ) × Derives (of_places g) (suffix g (suc p)) w)
          → (w : List ℕ) × Derives (of_places g) (before s (suffix g (suc p))) w
      go (Token k) e rec = matched k (rec (λ z. clash (cc)))
      go (Nonterminal c) e rec = joined c (fertile c (L.named p c e)) (rec (λ z. clash (cc)))
      go End e rec = ([], ([], Leftmost.done))

  behind : (p : ℕ) → p < g.size → ¬ (facing g p ≡ End) → (w : List ℕ) × Derives (of_places g) (suffix g (suc p)) w
  behind p l n = rest g.size (suc p) (omega arith) (L.within-next p l n)

  skips-derive : {f q : ℕ} {w : List ℕ} → Skips g f q → Derives (of_places g) (suffix g q) w → Derives (of_places g) (suffix g f) w
  skips-derive here x = x
  skips-derive {w = w} (over {p = p} {c = c} d n s) x = rw (suffix-is g p, d) (go ((nullable-iff g c).0 n) (skips-derive s x))
    where
      go : Derives (of_places g) (Nonterminal c ∷ []) [] → Derives (of_places g) (suffix g (suc p)) w
          → Derives (of_places g) (Nonterminal c ∷ suffix g (suc p)) w
      go (r, y) (r', z) = (r ++ r', leftmost-append y z)

  abbrev Begins : ℕ → List Symbol → Type 0
  Begins t α = (w : List ℕ) × Derives (of_places g) α (t ∷ w)

  -- by production b of a, over what is skipped
  by : (t a b : ℕ) {f q : ℕ} → first g a b ≡ some f → Skips g f q → Begins t (suffix g q) → Begins t (Nonterminal a ∷ [])
  by t a b {f} d s (w, x) = go (skips-derive s x)
    where
      go : Derives (of_places g) (suffix g f) (t ∷ w) → Begins t (Nonterminal a ∷ [])
      go (r, y) =
          let z : Leftmost (of_places g) (suffix g f ++ []) r (t ∷ w) = rw append-nil y in (w, (b ∷ r, Leftmost.expand (production-is g a b d) z))

  first-derives : {t a : ℕ} → First g t a → Begins t (Nonterminal a ∷ [])
  first-derives {t} {a} (First.token {f = f} {q = q} {k = k} b d s e m) =
      by t a b d s (rw (suffix-is g q, e) (go (behind q (skips-within L s (L.within_first a b f d)) (λ z. clash (cc)))))
    where
      go : (w : List ℕ) × Derives (of_places g) (suffix g (suc q)) w → Begins t (Token k ∷ suffix g (suc q))
      go (w, (r, x)) = (w, (r, Leftmost.match m x))
  first-derives {t} {a} (First.call {f = f} {q = q} {c = c} b d s e x) =
      by t a b d s (rw (suffix-is g q, e) (go (first-derives x) (behind q (L.within-call q c e) (λ z. clash (cc)))))
    where
      go : Begins t (Nonterminal c ∷ []) → (w : List ℕ) × Derives (of_places g) (suffix g (suc q)) w → Begins t (Nonterminal c ∷ suffix g (suc q))
      go (w, (r, y)) (v, (r', z)) = (w ++ v, (r ++ r', leftmost-append y z))

  alone : (t a : ℕ) → Starts g t (Nonterminal a ∷ []) → First g t a
  alone t a (call x) = x
  alone t a (skip _ x) = elim x [ ]

  pub first-iff : (t a : ℕ) → First g t a ↔ ((w : List ℕ) × Derives (of_places g) (Nonterminal a ∷ []) (t ∷ w))
  first-iff t a = (first-derives, λ h. alone t a (derives-starts h.1.1 refl))
