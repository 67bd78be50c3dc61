-- The code's gathering of a step: the configurations of a state, one after another.
use mathlib.Core.Path.{◌≡◌, refl, sym, ap, ◌∙◌}
use mathlib.Core.Bool.{Bool, true, false, cond}
use mathlib.Core.List.{List, [], ◌∷◌, map}
use Prim.Native.Nat.{ℕ, suc, ◌+◌, ◌/◌, ◌≤◌, ◌<◌}
use native.Mathlib.Omega.{arith}
use native.Mathlib.Decide.{dec_le}
use lib.ListN.{length}
use Rattle.base.proofs.Booleans.{clash}
use Rattle.grammar.specs.declared.Symbol.{Symbol}
use Rattle.grammar.specs.declared.Symbol.TheVariants.{Token, Nonterminal, End}
use Rattle.grammar.specs.declared.Place.{Place}
use Rattle.grammar.specs.Limits.{end_place}
use Rattle.grammar.specs.Grammar.{Grammar, place_at, facing, admits}
use Rattle.grammar.specs.inside.Tables.{grammar_in}
use Rattle.grammar.proofs.WordLaws.{facing-past}
use Rattle.lookahead.specs.Configs.{Config}
use Rattle.lookahead.specs.Order.{keep}
use Rattle.lookahead.specs.Outcomes.{passes_at, onward, step_configs}
use Rattle.configurations.specs.declared.config.Packed.{Packed}
use Rattle.configurations.specs.Packing.{config_words, unpack_all}
use Rattle.configurations.specs.inside.Packed.{config_of, Has, packed_at}
use Rattle.configurations.proofs.WordLaws.{said_from, said_all, said-next, said-none}
use Rattle.configurations.proofs.HeldLaws.{said_at}
use Rattle.configurations.proofs.FacingLaws.{place-faces}

-- ---- what a token passes
module _ (g : Grammar) (t place : ℕ) {p : ℕ} {x : Place} (at : p ≡ place) (is : x ≡ place_at g p) where
  passes-here : (s : Symbol) → x.symbol ≡ s → passes_at g t s ≡ passes_at g t (facing g place)
  passes-here s e = ap (passes_at g t) (sym (place-faces g place at is s e))

  pub passes-token : {r : Bool} (k : ℕ) → x.symbol ≡ Token k → r ≡ admits g k t → r ≡ passes_at g t (facing g place)
  unfolding passes_at
  passes-token k e a = a ∙ passes-here (Token k) e

  pub passes-other : ((k : ℕ) → x.symbol ≡ Token k → ⊥) → false ≡ passes_at g t (facing g place)
  unfolding passes_at
  passes-other n = go x.symbol refl
    where
      go : (s : Symbol) → x.symbol ≡ s → false ≡ passes_at g t (facing g place)
      go (Token k) e = absurd (n k e)
      go (Nonterminal a) e = passes-here (Nonterminal a) e
      go End e = passes-here End e

-- what a token passes is a place of the tables
pub passes-in : (ts : List ℕ) (t place : ℕ) {r : Bool} → r ≡ passes_at (grammar_in ts) t (facing (grammar_in ts) place) → r ≡ true → place ≤ end_place
unfolding passes_at
passes-in ts t place {r} e f = go (dec_le place end_place)
  where
    go : Dec (place ≤ end_place) → place ≤ end_place
    go (yes l) = l
    go (no n) =
        let q : facing (grammar_in ts) place ≡ End = facing-past ts place (omega arith) in
        let z : r ≡ false = e ∙ ap (passes_at (grammar_in ts) t) q in
        clash (cc)

step-cons : (g : Grammar) (t : ℕ) (k : Config) (ks : List Config) {r : Bool} → r ≡ passes_at g t (facing g k.place)
    → step_configs g t (k ∷ ks) ≡ cond r (onward k ∷ step_configs g t ks) (step_configs g t ks)
unfolding step_configs keep
step-cons g t k ks {r} e = ap (λ (b : Bool). map onward (cond b (k ∷ rest) rest)) (sym e) ∙ go r
  where
    rest : List Config
    rest = keep (λ (c : Config). passes_at g t (facing g c.place)) ks

    go : (b : Bool) → map onward (cond b (k ∷ rest) rest) ≡ cond b (onward k ∷ map onward rest) (map onward rest)
    go true = refl
    go false = refl

-- ---- the configurations from number j on
unfoldable pub stepping : List ℕ → ℕ → List ℕ → ℕ → List Config
stepping ts t ws j = step_configs (grammar_in ts) t (said_from ws j)

pub stepping-all : (ts : List ℕ) (t : ℕ) (ws : List ℕ) → stepping ts t ws 0 ≡ step_configs (grammar_in ts) t (unpack_all ws)
unfolding stepping
stepping-all ts t ws = ap (step_configs (grammar_in ts) t) (said_all ws)

module _ (ts : List ℕ) (t : ℕ) (ws : List ℕ) (j : ℕ) {n : ℕ} (count : n ≡ length ws / config_words) where
  pub stepping-has : j < n → Has ws j
  stepping-has l = omega arith

  module _ (l : j < n) {c : Packed} (is : c ≡ packed_at ws j) {r : Bool} (e : r ≡ passes_at (grammar_in ts) t (facing (grammar_in ts) (config_of c).place))
    where
      one : stepping ts t ws j ≡ cond r (onward (config_of c) ∷ stepping ts t ws (j + 1)) (stepping ts t ws (j + 1))
      unfolding stepping
      one =
          let z : suc j ≡ j + 1 = omega arith in
          let s : said_from ws j ≡ config_of c ∷ said_from ws (j + 1)
          = said-next ws j (stepping-has l) ∙ (λ i. sym (said_at ws j is) i ∷ said_from ws (z i)) in
          ap (step_configs (grammar_in ts) t) s ∙ step-cons (grammar_in ts) t (config_of c) (said_from ws (j + 1)) e

      pub stepping-on : r ≡ true → stepping ts t ws j ≡ onward (config_of c) ∷ stepping ts t ws (j + 1)
      stepping-on f = one ∙ rw f

      pub stepping-by : r ≡ false → stepping ts t ws j ≡ stepping ts t ws (j + 1)
      stepping-by f = one ∙ rw f

  pub stepping-none : n ≤ j → stepping ts t ws j ≡ []
  unfolding stepping step_configs keep
  stepping-none l = ap (step_configs (grammar_in ts) t) (said-none ws j (omega arith))
