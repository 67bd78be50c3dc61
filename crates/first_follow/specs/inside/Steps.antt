-- What the code works out, step by step. Internal: proofs/ says that the ends are FIRST and FOLLOW.
use Rattle.std.specs.Prelude.{◌≡◌, ◌⊎◌, ◌↔◌, Bool, cond, List, ℕ, suc, ◌≤◌, ◌<◌, T, length, get_or, set}
use Rattle.std.proofs.Math.Option.{some}
use Rattle.std.specs.Int.Bits.{bit_or}
use Rattle.base.specs.Bits.{test_bit, set_bit}
use Rattle.grammar.specs.declared.Symbol.{Symbol}
use Rattle.grammar.specs.declared.Symbol.TheVariants.{Token, Nonterminal, End}
use Rattle.grammar.specs.Limits.{max_kinds, max_nonterminals}
use Rattle.grammar.specs.Grammar.{Grammar, facing, owner, first}
use Rattle.first_follow.specs.FirstFollow.{Skips, First, Follow}
use Rattle.first_follow.specs.inside.Words.{start_at, follow_at, mask_words}

-- ---- what stands next to what
-- place p is come to from the first place of a production over nonterminals that derive the empty row
pub record Leading (g : Grammar) (p : ℕ) : Type 0 where
  pub who : ℕ
  pub alternative : ℕ
  pub start : ℕ
  pub begins : first g who alternative ≡ some start
  pub skips : Skips g start p

-- nonterminal a stands before place p, only nonterminals that derive the empty row between them
pub record Open (g : Grammar) (p a : ℕ) : Type 0 where
  pub place : ℕ
  pub calls : facing g place ≡ Nonterminal a
  pub skips : Skips g (suc place) p

-- a place below p that faces s has a property
pub record Noted (g : Grammar) (p : ℕ) (s : Symbol) (P : ℕ → Type 0) : Type 0 where
  pub place : ℕ
  pub below : place < p
  pub faces : facing g place ≡ s
  pub has : P place

-- it stands in front in a production of a
abbrev pub Fronts : Grammar → ℕ → ℕ → Type 0
Fronts g a q = (owner g q ≡ a) × Leading g q

-- a set of nonterminals is told by a property
abbrev pub SetIs : ℕ → (ℕ → Type 0) → Type 0
SetIs w P = (a : ℕ) → T (test_bit w a) ↔ P a

-- words that say what stands next to what: for a kind, nonterminals that have it in front, and those right before it; for a nonterminal, those that have it
-- in front, those right before it, and those that stand last in it
pub record Relations : Type 0 where
  pub masks : List ℕ
  pub above : List ℕ
  pub before : List ℕ
  pub last : List ℕ

-- they are as long as they must be
pub record Marking (R : Relations) : Type 0 where
  pub masks-long : length R.masks ≡ mask_words
  pub above-long : length R.above ≡ max_nonterminals
  pub before-long : length R.before ≡ max_nonterminals
  pub last-long : length R.last ≡ max_nonterminals

-- they say it of the places below p
pub record Gathered (g : Grammar) (p : ℕ) (R : Relations) : Type 0 where
  pub long : Marking R
  pub front-is : (k : ℕ) → k ≤ max_kinds → SetIs (get_or R.masks (start_at k) 0) (λ a. Noted g p (Token k) (Fronts g a))
  pub behind-is : (k : ℕ) → k ≤ max_kinds → SetIs (get_or R.masks (follow_at k) 0) (λ a. Noted g p (Token k) (λ q. Open g q a))
  pub above-is : (c : ℕ) → c < max_nonterminals → SetIs (get_or R.above c 0) (λ a. Noted g p (Nonterminal c) (Fronts g a))
  pub before-is : (c : ℕ) → c < max_nonterminals → SetIs (get_or R.before c 0) (λ a. Noted g p (Nonterminal c) (λ q. Open g q a))
  pub last-is : (x : ℕ) → x < max_nonterminals → SetIs (get_or R.last x 0) (λ a. Noted g p End (λ q. (owner g q ≡ x) × Open g q a))

-- word i joined by a set
abbrev pub added_of : ℕ → ℕ → List ℕ → List ℕ
added_of i w ws = set ws i (bit_or (get_or ws i 0) w)

-- word i with the member a, if `lead`
abbrev pub member_of : ℕ → ℕ → Bool → List ℕ → List ℕ
member_of i a lead ws = set ws i (cond lead (set_bit (get_or ws i 0) a) (get_or ws i 0))

-- token k noted
abbrev pub token_of : ℕ → ℕ → Bool → ℕ → List ℕ → List ℕ
token_of k a lead ahead ws = added_of (follow_at k) ahead (member_of (start_at k) a lead ws)

-- ---- how far it carries
-- r is the set `from` with the rows of the members of x
abbrev pub Joined : List ℕ → ℕ → ℕ → ℕ → Type 0
Joined rows x from r = SetIs r (λ a. T (test_bit from a) ⊎ ((c : ℕ) × T (test_bit x c) × T (test_bit (get_or rows c 0) a)))

-- the sets of kind t, from what was gathered
pub record KindIs (R : Relations) (t : ℕ) (ws : List ℕ) : Type 0 where
  pub seeds : ℕ
  pub start_is : Joined R.above (get_or R.masks (start_at t) 0) (get_or R.masks (start_at t) 0) (get_or ws (start_at t) 0)
  pub seeds-are : Joined R.before (get_or ws (start_at t) 0) (get_or R.masks (follow_at t) 0) seeds
  pub follow-is : Joined R.last seeds seeds (get_or ws (follow_at t) 0)

-- those of kind t alone are worked out
pub record Kind (R : Relations) (t : ℕ) (ws : List ℕ) : Type 0 where
  pub done : KindIs R t ws
  pub kept : (i : ℕ) → (i ≡ start_at t → ⊥) → (i ≡ follow_at t → ⊥) → get_or ws i 0 ≡ get_or R.masks i 0

-- those of the kinds below t alone are
pub record Kinds (R : Relations) (t : ℕ) (ws : List ℕ) : Type 0 where
  pub done : (k : ℕ) → k < t → KindIs R k ws
  pub kept : (i : ℕ) → start_at t ≤ i → get_or ws i 0 ≡ get_or R.masks i 0

-- the sets of every kind are FIRST and FOLLOW
pub record Related (g : Grammar) (ws : List ℕ) : Type 0 where
  pub start_is : (t : ℕ) → t ≤ max_kinds → SetIs (get_or ws (start_at t) 0) (First g t)
  pub follow-is : (t : ℕ) → t ≤ max_kinds → SetIs (get_or ws (follow_at t) 0) (Follow g t)
