-- A pair is tried: alternatives are few, so their ends may be added; and one that goes on from the several ends of a pair. The loop is in AttemptLaws.
use mathlib.Core.Path.{◌≡◌, sym, subst}
use mathlib.Core.Option.{some}
use mathlib.Core.List.{List}
use Prim.Native.Nat.{ℕ, suc, ◌+◌, ◌<◌}
use native.Mathlib.Omega.{arith}
use lib.ListN.{length, get_or}
use Rattle.std.specs.Prelude.{Result, Ok, Err}
use Rattle.positions.specs.declared.Positions.{Positions}
use Rattle.grammar.specs.Grammar.{alternatives, first}
use Rattle.grammar.specs.inside.Tables.{grammar_in, nonterminals_in}
use Rattle.derivation.specs.inside.Ready.{Ready}
use Rattle.derivation.proofs.CountLaws.{alternatives-few}
use Rattle.derivation.proofs.FirstLaws.{get-some}
use Rattle.derivation.proofs.ReadyLaws.{ready-first}
use Rattle.search.specs.inside.Searching.{Given, Searching, Sized, set_of}
use Rattle.search.specs.inside.Ways.{GoesOn, Went}
use Rattle.search.specs.inside.Walks.{MayWalk, DidWalk, WalkedTo, EndsIn}
use Rattle.search.specs.inside.Trials.{EndsFit, MayAdd, AddedAll, MayBranch, JoinedEnds, BranchedTo, Branched}
use Rattle.search.specs.declared.words.Size.{Size}
use Rattle.search.specs.declared.meter.Meter.{Meter}
use Rattle.search.specs.declared.adding.Ends.{Ends}
use Rattle.search.specs.declared.ways.Way.{Way}
use Rattle.search.specs.declared.walking.Halt.{Halt}
use Rattle.search.specs.declared.walking.Halt.TheVariants.{Needs, Out}
use Rattle.search.proofs.ReplyLaws.{token-few}

-- ---- alternatives are few
pub number_small : {t : List ℕ} {a k : ℕ} → Ready t → a < nonterminals_in t → k < length (alternatives (grammar_in t) a) → k + 1 < 32
number_small {t} {a} h l m = omega (arith, alternatives-few t h a)

-- ---- the first place that stands there is that of the alternative with the next number
module _ (t : List ℕ) (a : ℕ) {ps : List ℕ} {k f : ℕ} (e : ps ≡ alternatives (grammar_in t) a) (l : k < length ps) (d : f ≡ get_or ps k 0) where
  pub first-is : first (grammar_in t) a (suc k) ≡ some f
  first-is = rw (d, ← e) (get-some ps k l)

  pub first_inside : Ready t → f < (grammar_in t).size
  first_inside h = ready-first t h a (suc k) f first-is

-- ---- what may be asked
-- ends of an alternative may be added
pub may_add : {t w ms : List ℕ} {a k : ℕ} {e : Ends} → Given t w ms → a < nonterminals_in t → k < 32 → EndsFit e → MayAdd ms w e a k
may_add {t} {w} {ms} h l m f = record {
  masked = h.masked;
  short = h.short;
  kinds = token-few t w ms h;
  named = omega (arith, h.ready.fits.few);
  alternative = m;
  fits = f;
}

-- it may go on where its way goes on
pub may-branch : {t w ms ws : List ℕ} {s : Size} {a k f i p b j : ℕ} {e : Ends} → Searching t w ms ws → Sized t w s → a < nonterminals_in t → k < 32
    → EndsFit e → GoesOn t w ms ws f i p b j → MayBranch t w ms ws s a k e p b j
may-branch h z l m r y = record {
  walk = record { searching = h; sized = z; place = y.within; within = y.members };
  pair = (y.named, y.came.within);
  add = may_add h.given l m r;
}

-- what the code was told
pub went-as : (t w ms ws : List ℕ) (f i : ℕ) {r v : Way} → r ≡ v → Went t w ms ws f i r → Went t w ms ws f i v
went-as t w ms ws f i q h = subst (λ (v : Way). Went t w ms ws f i v) q h

-- ---- an alternative that goes on from the several ends of a pair
-- it may be walked from a set that is the pair's
pub walk_from : {t w ms ws : List ℕ} {s : Size} {p : ℕ} {x y : List ℕ} → x ≡ y → MayWalk t w ms ws s p y → MayWalk t w ms ws s p x
walk_from {t} {w} {ms} {ws} {s} {p} q h = subst (λ (x : List ℕ). MayWalk t w ms ws s p x) (sym q) h

module _ {t w ms ws : List ℕ} (a k : ℕ) (e : Ends) (p b j : ℕ) {m m' : Meter} {x : List ℕ} (same : x ≡ set_of t w ws b j) {r : Result Positions Halt}
    (did : DidWalk t w ms ws p x m m' r) where
  here : DidWalk t w ms ws p (set_of t w ws b j) m m' r
  here = subst (λ (x : List ℕ). DidWalk t w ms ws p x m m' r) same did

  walked_as : {v : Result Positions Halt} → r ≡ v → WalkedTo t w ms ws p (set_of t w ws b j) m.high v m'.high
  walked_as q = subst (λ (v : Result Positions Halt). WalkedTo t w ms ws p (set_of t w ws b j) m.high v m'.high) q here.walked

  pub branch-halts : {h : Halt} → r ≡ Err h → Branched t w ms ws a k e p b j m m' (Err h)
  branch-halts {h} q = record { spent = here.spent; raised = here.raised; branched = go h (walked_as q) }
    where
      go : (h : Halt) → WalkedTo t w ms ws p (set_of t w ws b j) m.high (Err h) m'.high → BranchedTo t w ms ws a k e p b j m.high (Err h) m'.high
      go (Needs n) u = u
      go Out u = tt

  pub branch-joins : {y : Positions} {e' : Ends} → r ≡ Ok y → AddedAll ms w a k y.words e e' → EndsFit e' → Branched t w ms ws a k e p b j m m' (Ok e')
  branch-joins {y} {e'} q add f = record { spent = here.spent; raised = here.raised; branched = joined (walked_as q) }
    where
      joined : EndsIn t w ms ws p (set_of t w ws b j) m.high m'.high y.words → JoinedEnds t w ms ws a k e p b j m.high m'.high e'
      joined y = record {
        added = λ i l z h u. add (grammar_in t) i l z y.within
            (λ n. (λ v. let d = (h n).0 v in ((y.ends n).0 d.0, d.1), λ v. (h n).1 ((y.ends n).1 v.0, v.1))) u;
        fits = f;
        cover = y.cover;
      }
