-- Which places a note reaches, worked out by rounds, and from that the position where a note that is no sentence goes wrong.
use Rattle.std.specs.Prelude.{Bool, true, ◌&&◌, ◌||◌, List, eqb, ltb, length}
use Rattle.std.proofs.Math.Bool.{false}
use Rattle.std.proofs.Math.Option.{Option, none, some}
use Prim.Native.Nat.{ℕ, zero, suc, ◌*◌}
use Rattle.std.proofs.Math.Dec.{leb}
use Rattle.std.proofs.Math.ListN.{get_elem?}
use Rattle.base.specs.Rounds.{rounds, any_of, up_from}
use Rattle.grammar.specs.declared.Symbol.{Symbol}
use Rattle.grammar.specs.declared.Symbol.TheVariants.{Token, Nonterminal, End}
use Rattle.grammar.specs.Grammar.{Grammar, facing, admits, alternatives}
use Rattle.derivation.specs.Cells.{derives?}

-- a place of the grammar, and a position of the note
pub record Point : Type 0 where
  pub place : ℕ
  pub at : ℕ

abbrev pub point : ℕ → ℕ → Point
point p i = record { place = p; at = i }

-- f is the first place of a production of a
unfoldable pub opens? : Grammar → ℕ → ℕ → Bool
unfolding any_of alternatives
opens? g a f = any_of (eqb f) (alternatives g a)

-- a production of the start symbol begins at q, and j is the note's beginning
unfoldable pub by_start : Grammar → ℕ → ℕ → Bool
unfolding opens?
by_start g q zero = opens? g 0 q
by_start g q (suc j) = false

module _ (g : Grammar) (w : List ℕ) (X : Point → Bool) where
  -- X holds place p at i, it faces kind k, and this token stands at i
  unfoldable pub over_token : ℕ → ℕ → ℕ → Option ℕ → Bool
  unfolding admits
  over_token p k i none = false
  over_token p k i (some t) = let rest = X (point p i) in admits g k t && rest

  -- the same by the position behind the token
  unfoldable pub by_match : ℕ → ℕ → ℕ → Bool
  unfolding over_token
  by_match p k zero = false
  by_match p k (suc i) = over_token p k i (get_elem? w i)

  -- X holds place p at i, and the production from f on derives the tokens from i up to j
  unfoldable pub over_stretch : ℕ → ℕ → ℕ → ℕ → Bool
  unfolding derives?
  over_stretch p j f i = let rest = X (point p i) in derives? g w f i j && rest

  -- over place p, which faces s, up to j
  unfoldable pub over : ℕ → ℕ → Symbol → Bool
  unfolding by_match over_stretch any_of up_from alternatives
  over p j (Token k) = by_match p k j
  over p j (Nonterminal a) = any_of (λ f. any_of (over_stretch p j f) (up_from 0 (suc j))) (alternatives g a)
  over p j End = false

  -- to place q from the place before it
  unfoldable pub by_place : ℕ → ℕ → Bool
  unfolding over facing
  by_place zero j = false
  by_place (suc p) j = over p j (facing g p)

  -- X holds place p at j, and it faces s, a nonterminal of which a production begins at q
  unfoldable pub into_call : ℕ → ℕ → ℕ → Symbol → Bool
  unfolding opens?
  into_call q j p (Token k) = false
  into_call q j p (Nonterminal a) = let rest = X (point p j) in opens? g a q && rest
  into_call q j p End = false

  unfoldable pub by_call : ℕ → ℕ → Bool
  unfolding into_call facing any_of up_from
  by_call q j = any_of (λ p. into_call q j p (facing g p)) (up_from 0 (length g.places))

  -- the points that can be reached at once, or by one step from a point of X
  unfoldable pub stepped : Point → Bool
  unfolding by_start by_place by_call
  stepped c = let before = by_place c.place c.at in let above = by_call c.place c.at in by_start g c.place c.at || (before || above)

  -- one round: the same for the grammar's places and the note's positions, of which there are finitely many
  unfoldable pub reach_round : Point → Bool
  unfolding stepped
  reach_round c = let rest = stepped c in (ltb c.place (length g.places) && leb c.at (length w)) && rest

-- how many points there are
abbrev pub point_count : Grammar → List ℕ → ℕ
point_count g w = suc (length w) * length g.places

-- place p can be reached after i tokens of w: by one step from what the rounds hold, which may lead to a number that is no place
unfoldable pub reach? : Grammar → List ℕ → ℕ → ℕ → Bool
unfolding stepped rounds reach_round
reach? g w p i = stepped g w (rounds (reach_round g w) (suc (point_count g w))) (point p i)

-- something can be reached after k tokens: a place, the number behind the last place, or the first place of a production
unfoldable pub arrives? : Grammar → List ℕ → ℕ → Bool
unfolding reach? any_of up_from alternatives
arrives? g w k =
    let firsts = any_of (λ a. any_of (λ f. reach? g w f k) (alternatives g a)) (up_from 0 (length g.starts)) in
    any_of (λ p. reach? g w p k) (up_from 0 (suc (length g.places))) || firsts

-- the highest number up to n that passes the test, 0 if none does
unfoldable pub highest_to : (ℕ → Bool) → ℕ → ℕ
highest_to p zero = zero
highest_to p (suc n) = elim (p (suc n)) [ true ↦ suc n | false ↦ highest_to p n ]

-- how far into w something can be reached: where a note that is no sentence goes wrong
unfoldable pub wrong_place : Grammar → List ℕ → ℕ
unfolding highest_to arrives?
wrong_place g w = highest_to (arrives? g w) (length w)
