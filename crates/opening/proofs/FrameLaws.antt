-- Open frames one by one: the topmost of some is the end place, and then the only one, or the place behind a call in a production that is open over the rest;
-- and what walks along a production keep.
use mathlib.Core.Path.{◌≡◌, refl, ◌∙◌}
use mathlib.Core.Logic.{◌↔◌}
use mathlib.Core.List.{List, [], ◌∷◌, ◌++◌}
use Prim.Native.Nat.{ℕ, zero, suc, ◌+◌, ◌*◌, ◌<◌}
use native.Mathlib.Omega.{arith}
use lib.ListN.{length, get_or}
use Rattle.base.proofs.Booleans.{clash}
use Rattle.grammar.specs.declared.Symbol.TheVariants.{Nonterminal}
use Rattle.grammar.specs.Limits.{end_place}
use Rattle.grammar.specs.Grammar.{Grammar, facing, owner}
use Rattle.grammar.specs.inside.Tables.{grammar_in}
use Rattle.grammar.specs.inside.Ordered.{Ordered}
use Rattle.derivation.specs.Runs.{marked, Opens}
use Rattle.derivation.specs.inside.BigSteps.{Der, DerivesBy}
use Rattle.derivation.specs.inside.Reach.{Reach}
use Rattle.derivation.specs.inside.Frames.{frame_words, returns_of}
use Rattle.derivation.specs.inside.Ready.{Ready}
use Rattle.derivation.proofs.ReadyLaws.{ready-ordered, ready_call, ready-next}
use Rattle.first_follow.specs.inside.Masks.{Masks, Closed}
use Rattle.filtering.specs.inside.Filtered.{Ends, Over}
use Rattle.filtering.specs.inside.Cover.{Walks, here, on}
use Rattle.filtering.specs.inside.OpenStacks.{Open, bottom, frame, Reached}
use Rattle.filtering.proofs.FilterLaws.{der_f-der}
use Rattle.filtering.proofs.OpensLaws.{opens-bottom, opens-place}
use Rattle.filtering.proofs.StackLaws.{open-call}
use Rattle.filtering.proofs.PathLaws.{reached-down}
use Rattle.filtering.proofs.WalkLaws.{walks-reach}

-- ---- the topmost frame
-- what stands under a production of a: the end place alone, or a place behind a call of a
data Below (g : Grammar) (a x : ℕ) (S : List ℕ) : Type 0 where
  last : x ≡ end_place → S ≡ [] → Below g a x S
  over : (p : ℕ) → x ≡ suc p → facing g p ≡ Nonterminal a → Open g (owner g p) S → Below g a x S

open-below : {g : Grammar} {a : ℕ} {L : List ℕ} (x : ℕ) (S : List ℕ) → Open g a L → L ≡ x ∷ S → Below g a x S
open-below x S bottom e = let h : x ≡ end_place = cc in let k : S ≡ [] = cc in last h k
open-below x S (frame {p = p} {S = S'} f o) e = let h : x ≡ suc p = cc in let k : S' ≡ S = cc in over p h f (rw k at o)

no-open : {g : Grammar} {a : ℕ} {L : List ℕ} → Open g a L → L ≡ [] → ⊥
no-open bottom q = clash (cc)
no-open (frame f o) q = clash (cc)

module _ (ws : List ℕ) (base : ℕ) where
  -- some frame is open
  pub open-some : {g : Grammar} {a : ℕ} (k : ℕ) → Open g a (returns_of ws base k) → 0 < k
  unfolding returns_of
  open-some zero o = absurd (no-open o refl)
  open-some (suc k) o = omega arith

  -- one more frame
  returns-more : (k : ℕ) → returns_of ws base (suc k) ≡ get_or ws (base + frame_words * k) 0 ∷ returns_of ws base k
  unfolding returns_of
  returns-more k = refl

  pub returns-top : (k p : ℕ) → p ≡ get_or ws (base + frame_words * k) 0 → returns_of ws base (suc k) ≡ p ∷ returns_of ws base k
  returns-top k p e = rw e (returns-more k)

  returns-none : returns_of ws base zero ≡ []
  unfolding returns_of
  returns-none = refl

  module _ (t w : List ℕ) (ready : Ready t) {a : ℕ} where
    -- the lowest frame is the end place
    pub opens-lowest : (m : ℕ) → Open (grammar_in t) a (returns_of ws base 1) → Opens (grammar_in t) (marked w) (returns_of ws base 1) m ↔ (m ≡ length w)
    opens-lowest m o = go (open-below (get_or ws (base + frame_words * 0) 0) (returns_of ws base zero) o (returns-more zero))
      where
        go : Below (grammar_in t) a (get_or ws (base + frame_words * 0) 0) (returns_of ws base zero)
            → Opens (grammar_in t) (marked w) (returns_of ws base 1) m ↔ (m ≡ length w)
        go (last e q) = rw (returns-more zero, e, q) (opens-bottom (grammar_in t) (ready-ordered t ready) w m)
        go (over p e f y) = absurd (no-open y returns-none)

    -- any other is a place of the grammar, of a production that is open over those below
    pub next_place : (k p : ℕ) → 0 < k → Open (grammar_in t) a (returns_of ws base (suc k)) → p ≡ get_or ws (base + frame_words * k) 0
        → (p < (grammar_in t).size) × Open (grammar_in t) (owner (grammar_in t) p) (returns_of ws base k)
    next_place k p l o e = go (open-below (get_or ws (base + frame_words * k) 0) (returns_of ws base k) o (returns-more k))
      where
        empty : (n : ℕ) → 0 < n → returns_of ws base n ≡ [] → ⊥
        empty zero h q = absurd (omega arith)
        empty (suc n) h q = let z = returns-more n in clash (cc)

        go : Below (grammar_in t) a (get_or ws (base + frame_words * k) 0) (returns_of ws base k)
            → (p < (grammar_in t).size) × Open (grammar_in t) (owner (grammar_in t) p) (returns_of ws base k)
        go (last h q) = absurd (empty k l q)
        go (over r h f y) =
            let z : p ≡ suc r = e ∙ h in
            rw z (ready-next t ready r (ready_call t ready r a f) (λ q. clash (cc)), open-call (ready-ordered t ready) r a f y)

-- ---- a production over a stack
module _ {g : Grammar} {M : Masks} {w : List ℕ} (order : Ordered g) where
  -- with a single end
  pub opens-single : {p i m : ℕ} {S : List ℕ} → Closed g M → Open g (owner g p) S → ((n : ℕ) → Ends g M w p i n ↔ (n ≡ m))
      → Opens g w (p ∷ S) i ↔ Opens g w S m
  opens-single {p} {i} {m} {S} c o e = (λ x. to ((opens-place order c o).0 x), λ y. (opens-place order c o).1 (m, (e m).1 refl, y))
    where
      to : (n : ℕ) × Ends g M w p i n × Opens g w S n → Opens g w S m
      to (n, x, y) = rw ((e n).0 x) at y

  over-owner : {p i m : ℕ} → Over g M w p i m → owner g (suc p) ≡ owner g p
  over-owner {p} (Over.token {k = k} f d h) = order.token-on p k f
  over-owner {p} (Over.call {a = a} f x) = order.call-on p a f

  -- walks stay in their production
  pub walks-owner : {f i p j : ℕ} → Walks g M w f i p j → owner g p ≡ owner g f
  walks-owner here = refl
  walks-owner (on v o) = over-owner o ∙ walks-owner v

-- ---- what is reached
module _ {g : Grammar} {M : Masks} {w : List ℕ} where
  over-derives : {p i m n : ℕ} → Over g M w p i m → DerivesBy g w (suc p) m n → DerivesBy g w p i n
  over-derives (Over.token f d h) (s, y) = (s, Der.match f d h y)
  over-derives (Over.call f (b, (q, d, (r, x), h))) (s, y) = (b ∷ (r ++ s), Der.expand f d (der_f-der x) y)

  walks-derives : {f i p j n : ℕ} → Walks g M w f i p j → DerivesBy g w p j n → DerivesBy g w f i n
  walks-derives here y = y
  walks-derives (on v o) y = walks-derives v (over-derives o y)

  -- along a production
  pub reached-on : {p i q j : ℕ} (S : List ℕ) → Reached g w (p ∷ S) i → Walks g M w p i q j → Reached g w (q ∷ S) j
  unfolding Reached
  reached-on [] x v = tt
  reached-on (r ∷ S) (x, h) v = (walks-reach x v, λ m y. h m (walks-derives v y))

  -- to its end
  pub reached-below : {p i m : ℕ} (S : List ℕ) → Reached g w (p ∷ S) i → Ends g M w p i m → Reached g w S m
  unfolding Reached
  reached-below [] x y = tt
  reached-below (r ∷ S) x y = reached-down g w r S x y

pub reached-top : {g : Grammar} {w : List ℕ} {p i : ℕ} (ws : List ℕ) (base k : ℕ) → 0 < k → Reached g w (p ∷ returns_of ws base k) i → Reach g w p i
unfolding Reached returns_of
reached-top ws base zero l x = absurd (omega arith)
reached-top ws base (suc k) l (x, h) = x
