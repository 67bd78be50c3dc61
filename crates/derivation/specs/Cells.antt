-- The table of derivations: for each place and each stretch of a note whether the place derives it, worked out by rounds.
use Rattle.std.specs.Prelude.{Bool, ◌&&◌, List, [], ◌∷◌, ℕ, suc, ◌-◌, ◌*◌, length}
use Rattle.std.proofs.Math.Bool.{false}
use Rattle.std.proofs.Math.Option.{Option, none, some}
use Rattle.std.proofs.Math.Dec.{eqb, leb}
use Rattle.std.proofs.Math.ListN.{get_elem?}
use Rattle.base.specs.Rounds.{rounds, any_of, up_from}
use Rattle.grammar.specs.declared.Symbol.{Symbol}
use Rattle.grammar.specs.declared.Symbol.TheVariants.{Token, Nonterminal, End}
use Rattle.grammar.specs.Grammar.{Grammar, facing, admits, alternatives}

-- a place, and a stretch of the note
pub record Cell : Type 0 where
  pub place : ℕ
  pub from : ℕ
  pub upto : ℕ

abbrev pub cell : ℕ → ℕ → ℕ → Cell
cell p i j = record { place = p; from = i; upto = j }

-- the positions where a stretch can be cut in two
abbrev pub cuts : ℕ → ℕ → List ℕ
cuts i j = up_from i (suc j - i)

module _ (g : Grammar) (w : List ℕ) (X : Cell → Bool) where
  -- place p faces kind k, and this token stands at i
  unfoldable pub by_token : ℕ → ℕ → ℕ → ℕ → Option ℕ → Bool
  unfolding admits
  by_token p i j k none = false
  by_token p i j k (some t) = let rest = X (cell (suc p) (suc i) j) in admits g k t && rest

  -- the production from f on derives up to m, and what follows place p the rest
  unfoldable pub by_cut : ℕ → ℕ → ℕ → ℕ → ℕ → Bool
  by_cut p i j f m = let rest = X (cell (suc p) m j) in X (cell f i m) && rest

  unfoldable pub by_symbol : ℕ → ℕ → ℕ → Symbol → Bool
  unfolding by_token by_cut any_of up_from alternatives
  by_symbol p i j (Token k) = by_token p i j k (get_elem? w i)
  by_symbol p i j (Nonterminal a) = any_of (λ f. any_of (by_cut p i j f) (cuts i j)) (alternatives g a)
  by_symbol p i j End = eqb i j

  -- one round: the cells that follow from those of X, for stretches that end in the note
  unfoldable pub cell_round : Cell → Bool
  unfolding by_symbol facing
  cell_round c = let rest = by_symbol c.place c.from c.upto (facing g c.place) in leb c.upto (length w) && rest

-- how many cells there are: the grammar's places, and two positions of the note
abbrev pub cell_count : Grammar → List ℕ → ℕ
cell_count g w = length g.places * (suc (length w) * suc (length w))

-- place p derives the stretch from i up to j; one round more than there are cells is enough
unfoldable pub derives? : Grammar → List ℕ → ℕ → ℕ → ℕ → Bool
unfolding rounds cell_round
derives? g w p i j = rounds (cell_round g w) (suc (cell_count g w)) (cell p i j)

-- the open stack derives the rest of the note from i on
unfoldable pub runs? : Grammar → List ℕ → List ℕ → ℕ → Bool
unfolding derives? any_of up_from
runs? g w [] i = eqb i (length w)
runs? g w (p ∷ S) i = any_of (λ m. let rest = runs? g w S m in derives? g w p i m && rest) (cuts i (length w))
