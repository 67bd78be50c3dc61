-- C3: where a pair has a single end, the lowest alternative that gives it is the plain chooser's, and that end alone is the set of the frame.
use mathlib.Core.Path.{◌≡◌}
use mathlib.Core.Logic.{◌↔◌}
use mathlib.Core.Bool.{Bool}
use mathlib.Core.Option.{some}
use mathlib.Core.List.{List, ◌∷◌}
use Prim.Native.Nat.{ℕ, suc, ◌≤◌}
use lib.Dec.{T, eqb, eqb→eq, eqb_refl}
use Rattle.base.specs.Search.{this}
use Rattle.base.proofs.Booleans.{same}
use Rattle.base.proofs.Lowest.{lowest-one}
use Rattle.grammar.specs.declared.Symbol.TheVariants.{Nonterminal}
use Rattle.grammar.specs.Grammar.{Grammar, facing, owner, first}
use Rattle.grammar.specs.inside.Ordered.{Ordered}
use Rattle.derivation.specs.Runs.{Opens, Serves}
use Rattle.derivation.specs.Cells.{derives?, runs?}
use Rattle.derivation.specs.Machine.{lowest}
use Rattle.derivation.proofs.CellLaws.{derives-sound, runs-iff}
use Rattle.derivation.proofs.LowestLaws.{lowest-serves}
use Rattle.first_follow.specs.inside.Masks.{Masks, Closed}
use Rattle.filtering.specs.inside.Filtered.{EndsBy, PairEnds}
use Rattle.filtering.specs.inside.OpenStacks.{Open, frame}
use Rattle.filtering.specs.inside.Tags.{one_end, Says, one, Tagged}
use Rattle.filtering.specs.inside.Serving.{Single}
use Rattle.filtering.proofs.FilterLaws.{der-filter, follow-right}
use Rattle.filtering.proofs.OpensLaws.{opens_by, opens-call}

module _ {g : Grammar} {M : Masks} {w : List ℕ} (order : Ordered g) (c : Closed g M) {S : List ℕ} (a i : ℕ) (o : Open g a S) where
  -- an alternative that serves has an end from which the rest is read
  pub serves_by : (b : ℕ) → Serves g w S a i b ↔ ((m : ℕ) × EndsBy g M w a i b m × Opens g w S m)
  serves_by b = (λ s. (opens_by order c a b s.0 o s.1).0 s.2, from)
    where
      from : (m : ℕ) × EndsBy g M w a i b m × Opens g w S m → Serves g w S a i b
      from (m, (f, d, x, h), y) = (f, d, (opens_by order c a b f o d).1 (m, (f, d, x, h), y))

  -- a stretch of a production that leads to a reading is an end
  ends_of : (b f n : ℕ) → first g a b ≡ some f → T (derives? g w f i n) → Opens g w S n → EndsBy g M w a i b n
  ends_of b f n d t (s, y) =
      let (r, x) = derives-sound g w t in
      let h = follow-right order c o y in
      (f, d, (r, der-filter order c x (rw (order.owns a b f d) h)), h)

  module _ (m b : ℕ) (more : Bool) (tag : Tagged g M w a i (one_end m b more)) where
    only : (k n : ℕ) → EndsBy g M w a i k n → (n ≡ m) × (b ≤ k)
    only k n x = go tag
      where
        go : Says (EndsBy g M w a i) (one_end m b more) → (n ≡ m) × (b ≤ k)
        go (one p u e) = u k n x

    gives : EndsBy g M w a i b m
    gives = go tag
      where
        go : Says (EndsBy g M w a i) (one_end m b more) → EndsBy g M w a i b m
        go (one p u e) = p

    least : (k : ℕ) → Serves g w S a i k → b ≤ k
    least k s = let (n, x, y) = (serves_by k).0 s in (only k n x).1

    -- the rest is read from that end: this alternative serves, and it is the lowest that does
    single-serves : Opens g w S m → Serves g w S a i b
    single-serves y = (serves_by b).1 (m, gives, y)

    pub single-lowest : Opens g w S m → lowest g w S a i ≡ some b
    single-lowest y = lowest-one (lowest-serves g w S a i) (this b (single-serves y) least)

    -- from any end of the production the rest is read exactly if it is the single end
    single-set : (k f n : ℕ) → first g a k ≡ some f → T (derives? g w f i n) → Opens g w S m → eqb n m ≡ runs? g w S n
    single-set k f n d t y =
        same (eqb n m) (runs? g w S n) (λ q. rw (eqb→eq n m q) ((runs-iff g w S m).1 y))
        (λ q. rw (only k n (ends_of k f n d t ((runs-iff g w S n).0 q))).0 (eqb_refl m))

-- the stack under a calling place opens, and the pair has a single end: the rest is read from it
single-opens : {g : Grammar} {M : Masks} {w : List ℕ} (order : Ordered g) (c : Closed g M) (p a i m b : ℕ) (more : Bool) {S : List ℕ}
    → Open g (owner g p) S → facing g p ≡ Nonterminal a → Tagged g M w a i (one_end m b more) → Opens g w (p ∷ S) i → Opens g w (suc p ∷ S) m
single-opens {g} {M} {w} order c p a i m b more {S} o e (one x u h) y = go ((opens-call order c a o e).0 y)
  where
    go : (n : ℕ) × PairEnds g M w a i n × Opens g w (suc p ∷ S) n → Opens g w (suc p ∷ S) m
    go (n, (k, z), v) = rw (u k n z).0 at v

-- C3, whole: at a place that calls a at i
pub single-right : {g : Grammar} {M : Masks} {w : List ℕ} (order : Ordered g) (c : Closed g M) (p a i m b : ℕ) (more : Bool) {S : List ℕ}
    → Open g (owner g p) S → facing g p ≡ Nonterminal a → Tagged g M w a i (one_end m b more) → Opens g w (p ∷ S) i → Single g w (suc p ∷ S) a i m b
single-right order c p a i m b more o e tag y =
    let z = single-opens order c p a i m b more o e tag y in
    record {
      chosen = single-lowest order c a i (frame e o) m b more tag z;
      serves = single-serves order c a i (frame e o) m b more tag z;
      opens = z;
      sets = λ f n d t. single-set order c a i (frame e o) m b more tag b f n d t z;
    }
