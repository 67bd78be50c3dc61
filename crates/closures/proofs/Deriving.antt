-- Nonterminals that derive some row of tokens (refusal 6), and those that derive the empty row: the closure by rounds is the textbook's. One
-- development for both; the flag `tokens` says which.
use mathlib.Core.Path.{◌≡◌, refl, ap, ◌∙◌}
use mathlib.Core.Logic.{◌↔◌}
use mathlib.Core.Bool.{Bool, true, false, ◌&&◌}
use mathlib.Core.List.{List, [], ◌∷◌, ◌++◌, append-nil}
use Prim.Native.Nat.{ℕ, zero, suc, ◌<◌}
use native.Mathlib.Omega.{arith}
use native.Mathlib.Decide.{dec_lt}
use lib.Dec.{T}
use lib.ListN.{length}
use Rattle.base.specs.Rounds.{rounds}
use Rattle.base.proofs.Booleans.{clash, and_T, T_and, same}
use Rattle.base.proofs.Lists.{any_of-T, T-any_of}
use Rattle.base.proofs.Fixpoint.{Within, least}
use Rattle.grammar.specs.declared.Symbol.{Symbol}
use Rattle.grammar.specs.declared.Symbol.TheVariants.{Token, Nonterminal, End}
use Rattle.grammar.specs.Grammar.{Grammar, facing, before, alternatives, suffix, of_places}
use Rattle.grammar.specs.Derivation.{Leftmost, Derives}
use Rattle.grammar.proofs.GrammarLaws.{suffix-is, production-is, production-from, first_pos, no-alternatives, leftmost-append, admits-self}
use Rattle.closures.specs.Textbook.{Productive, Vanishing, nil, also}
use Rattle.closures.specs.Closures.{passes, passes_by, deriving_round, deriving?, productive?, nullable?}
use Rattle.closures.proofs.Below.{rounds-closed, closed-from-below}

-- ---- the textbook's side of the flag: any row, or the empty row
abbrev pub Wanted : Bool → List ℕ → Type 0
Wanted true w = Unit {0}
Wanted false w = w ≡ []

abbrev pub DerivesFor : Bool → Grammar → List Symbol → Type 0
DerivesFor tokens g α = (w : List ℕ) × Wanted tokens w × Derives (of_places g) α w

wanted-nil : (tokens : Bool) → Wanted tokens []
wanted-nil true = tt
wanted-nil false = refl

wanted-any : (tokens : Bool) → T tokens → (w : List ℕ) → Wanted tokens w
wanted-any true t w = tt
wanted-any false t w = absurd t

wanted-append : (tokens : Bool) (w v : List ℕ) → Wanted tokens w → Wanted tokens v → Wanted tokens (w ++ v)
wanted-append true w v x y = tt
wanted-append false w v x y = rw (x, y)

-- ---- lists that pass
module _ (tokens : Bool) where
  passes-mono : (X Y : ℕ → Bool) → Within X Y → (l : List Symbol) → T (passes tokens X l) → T (passes tokens Y l)
  unfolding passes
  passes-mono X Y h [] t = t
  passes-mono X Y h (Token k ∷ l) t =
      let s = and_T tokens (passes tokens X l) t in T_and tokens (passes tokens Y l) s.0 (passes-mono X Y h l s.1)
  passes-mono X Y h (Nonterminal a ∷ l) t =
      let s = and_T (X a) (passes tokens X l) t in T_and (Y a) (passes tokens Y l) (h a s.0) (passes-mono X Y h l s.1)
  passes-mono X Y h (End ∷ l) t = t

  module _ (X : ℕ → Bool) where
    passes_append : (l m : List Symbol) → T (passes tokens X (l ++ m)) → T (passes tokens X l) × T (passes tokens X m)
    unfolding passes
    passes_append [] m t = (tt, t)
    passes_append (Token k ∷ l) m t =
        let s = and_T tokens (passes tokens X (l ++ m)) t in
        let h = passes_append l m s.1 in
        (T_and tokens (passes tokens X l) s.0 h.0, h.1)
    passes_append (Nonterminal a ∷ l) m t =
        let s = and_T (X a) (passes tokens X (l ++ m)) t in
        let h = passes_append l m s.1 in
        (T_and (X a) (passes tokens X l) s.0 h.0, h.1)
    passes_append (End ∷ l) m t = absurd t

    passes-cons : (x : Symbol) (l : List Symbol) → T (passes tokens X (x ∷ [])) → T (passes tokens X l) → T (passes tokens X (x ∷ l))
    unfolding passes
    passes-cons (Token k) l t u = T_and tokens (passes tokens X l) (and_T tokens true t).0 u
    passes-cons (Nonterminal a) l t u = T_and (X a) (passes tokens X l) (and_T (X a) true t).0 u
    passes-cons End l t u = absurd t

    -- place by place, as one scan from the last place down works it out
    pub passes-place : (g : Grammar) (p : ℕ) → passes tokens X (suffix g p) ≡ passes_by tokens X (facing g p) (passes tokens X (suffix g (suc p)))
    unfolding passes
    passes-place g p = ap (passes tokens X) (suffix-is g p) ∙ go (facing g p)
      where
        go : (s : Symbol) → passes tokens X (before s (suffix g (suc p))) ≡ passes_by tokens X s (passes tokens X (suffix g (suc p)))
        go (Token k) = refl
        go (Nonterminal a) = refl
        go End = refl

module _ (tokens : Bool) (g : Grammar) where
  -- every member derives what is wanted
  abbrev AllDerive : (ℕ → Bool) → Type 0
  AllDerive X = (a : ℕ) → T (X a) → DerivesFor tokens g (Nonterminal a ∷ [])

  -- ---- the round as an operator on sets
  round_mono : (X Y : ℕ → Bool) → Within X Y → Within (deriving_round tokens g X) (deriving_round tokens g Y)
  unfolding deriving_round
  round_mono X Y h a t =
      let (n, f, e, s) = any_of-T (λ f. passes tokens X (suffix g f)) (alternatives g a) t in
      T-any_of (λ f. passes tokens Y (suffix g f)) (alternatives g a) n e (passes-mono tokens X Y h (suffix g f) s)

  round-below : (X : ℕ → Bool) (a : ℕ) → T (deriving_round tokens g X a) → a < length g.starts
  unfolding deriving_round
  round-below X a t = go (dec_lt a (length g.starts))
    where
      go : Dec (a < length g.starts) → a < length g.starts
      go (yes l) = l
      go (no l) = absurd (rw (no-alternatives g a (omega arith)) at t)

  -- ---- sound
  passes-derives : (X : ℕ → Bool) → AllDerive X → (l : List Symbol) → T (passes tokens X l) → DerivesFor tokens g l
  unfolding passes
  passes-derives X h [] t = ([], wanted-nil tokens, ([], Leftmost.done))
  passes-derives X h (Token k ∷ l) t =
      let s = and_T tokens (passes tokens X l) t in
      let (w, z, (r, x)) = passes-derives X h l s.1 in
      (k ∷ w, wanted-any tokens s.0 (k ∷ w), (r, Leftmost.match (admits-self g k) x))
  passes-derives X h (Nonterminal a ∷ l) t =
      let s = and_T (X a) (passes tokens X l) t in
      let (w, z, (r, x)) = h a s.0 in
      let (w', z', (r', x')) = passes-derives X h l s.1 in
      (w ++ w', wanted-append tokens w w' z z', (r ++ r', leftmost-append x x'))
  passes-derives X h (End ∷ l) t = absurd t

  -- what a round adds derives what is wanted too
  deriving-adds : (X : ℕ → Bool) → AllDerive X → AllDerive (deriving_round tokens g X)
  unfolding deriving_round
  deriving-adds X h a t =
      let (n, f, e, s) = any_of-T (λ f. passes tokens X (suffix g f)) (alternatives g a) t in
      let (w, z, (r, x)) = passes-derives X h (suffix g f) s in
      let y : Leftmost (of_places g) (suffix g f ++ []) r w = rw append-nil x in
      (w, z, (suc n ∷ r, Leftmost.expand (production-is g a (suc n) e) y))

  rounds-sound : (k : ℕ) → AllDerive (rounds (deriving_round tokens g) k)
  unfolding rounds
  rounds-sound zero a t = absurd t
  rounds-sound (suc k) a t = deriving-adds (rounds (deriving_round tokens g) k) (rounds-sound k) a t

  -- ---- complete
  closed : Within (deriving_round tokens g (deriving? tokens g)) (deriving? tokens g)
  unfolding deriving?
  closed a t = rounds-closed (deriving_round tokens g) round_mono (length g.starts) round-below a t

  passes-all : {α : List Symbol} {r w : List ℕ} → Leftmost (of_places g) α r w → Wanted tokens w → T (passes tokens (deriving? tokens g) α)
  unfolding passes deriving_round
  passes-all Leftmost.done z = tt
  passes-all (Leftmost.match {t = t} {α = α} {w = w} c x) z = go tokens z (passes-all x)
    where
      go : (b : Bool) → Wanted b (t ∷ w) → (Wanted b w → T (passes tokens (deriving? tokens g) α)) → T (b && passes tokens (deriving? tokens g) α)
      go true z h = h tt
      go false z h = clash (cc)
  passes-all (Leftmost.expand {a = a} {b = b} {β = β} {α = α} e x) z =
      let (f, d, q) = production-from g a b e in
      let (n, d') = first_pos g a b f d in
      let h = passes_append tokens (deriving? tokens g) β α (passes-all x z) in
      T_and (deriving? tokens g a) (passes tokens (deriving? tokens g) α)
      (closed a (T-any_of (λ f. passes tokens (deriving? tokens g) (suffix g f)) (alternatives g a) n d' (rw q h.0))) h.1

  pub deriving-iff : (a : ℕ) → T (deriving? tokens g a) ↔ DerivesFor tokens g (Nonterminal a ∷ [])
  unfolding deriving? passes
  deriving-iff a =
      (rounds-sound (suc (length g.starts)) a, λ h. (and_T (deriving? tokens g a) true (passes-all h.2.1 h.1)).0)

  -- ---- for the code: a round adds only what derives, and a set of what derives that is closed among the grammar's nonterminals is the set
  pub round-within : (X : ℕ → Bool) → Within X (deriving? tokens g) → Within (deriving_round tokens g X) (deriving? tokens g)
  round-within X h a t = closed a (round_mono X (deriving? tokens g) h a t)

  pub deriving-exact : (X : ℕ → Bool) → Within X (deriving? tokens g)
      → ((a : ℕ) → a < length g.starts → T (deriving_round tokens g X a) → T (X a))
      → (a : ℕ) → X a ≡ deriving? tokens g a
  unfolding deriving?
  deriving-exact X sound below a =
      same (X a) (deriving? tokens g a) (sound a)
      (least (deriving_round tokens g) round_mono X (closed-from-below (deriving_round tokens g) round_mono (length g.starts) round-below X below)
      (suc (length g.starts)) a)

-- ---- in the textbook's words
pub productive-iff : (g : Grammar) (a : ℕ) → T (productive? g a) ↔ Productive (of_places g) a
productive-iff g a = (λ t. let h = (deriving-iff true g a).0 t in (h.0, h.2), λ h. (deriving-iff true g a).1 (h.0, tt, h.1))

empty-row : (g : Grammar) {α : List Symbol} → DerivesFor false g α → Derives (of_places g) α []
empty-row g (w, z, (r, x)) = (r, rw z at x)

pub nullable-iff : (g : Grammar) (a : ℕ) → T (nullable? g a) ↔ Derives (of_places g) (Nonterminal a ∷ []) []
nullable-iff g a = (λ t. empty-row g ((deriving-iff false g a).0 t), λ h. (deriving-iff false g a).1 ([], refl, h))

module _ (g : Grammar) where
  to-vanishing : (α : List Symbol) → T (passes false (nullable? g) α) → Vanishing (of_places g) α
  to-vanishing [] t = nil
  to-vanishing (x ∷ α) t =
      let s = passes_append false (nullable? g) (x ∷ []) α t in
      also (empty-row g (passes-derives false g (nullable? g) (λ a. (deriving-iff false g a).0) (x ∷ []) s.0)) (to-vanishing α s.1)

  from-vanishing : {α : List Symbol} → Vanishing (of_places g) α → T (passes false (nullable? g) α)
  unfolding passes
  from-vanishing nil = tt
  from-vanishing (also {x = x} {α = α} e h) = passes-cons false (nullable? g) x α (passes-all false g e.1 refl) (from-vanishing h)

  -- a list passes if each of its symbols derives the empty row
  pub vanish-iff : (α : List Symbol) → T (passes false (nullable? g) α) ↔ Vanishing (of_places g) α
  vanish-iff α = (to-vanishing α, from-vanishing)
