-- Along a production from a set of positions, symbol by symbol.
use mathlib.Core.Path.{◌≡◌, refl, sym, ◌∙◌}
use mathlib.Core.Logic.{◌↔◌, ◌⊎◌, inl, inr}
use mathlib.Core.List.{List}
use Prim.Native.Nat.{ℕ, suc, ◌+◌, ◌≤◌, ◌<◌}
use native.Mathlib.Numerals.{add-one}
use native.Mathlib.Omega.{arith}
use lib.Dec.{T}
use Rattle.std.specs.Prelude.{Result, Ok, Err}
use Rattle.base.proofs.Booleans.{clash}
use Rattle.grammar.specs.declared.Symbol.{Symbol}
use Rattle.grammar.specs.declared.Symbol.TheVariants.{Token, Nonterminal, End}
use Rattle.grammar.specs.Grammar.{Grammar, facing}
use Rattle.grammar.specs.inside.Tables.{grammar_in}
use Rattle.positions.specs.declared.Positions.{Positions}
use Rattle.positions.specs.inside.Positions.{member}
use Rattle.derivation.specs.Runs.{marked}
use Rattle.derivation.proofs.MarkedCells.{length_marked}
use Rattle.derivation.proofs.ReadyLaws.{ready-next}
use Rattle.first_follow.specs.inside.Masks.{Masks}
use Rattle.first_follow.specs.inside.Words.{masks_in}
use Rattle.filtering.specs.inside.Filtered.{EndsFrom}
use Rattle.filtering.specs.inside.Cover.{Walks, here, on, CoveredFrom, Covered}
use Rattle.filtering.proofs.EndLaws.{from-over, from_end}
use Rattle.filtering.proofs.WalkLaws.{covered-over, covered-end, covered_more}
use Rattle.search.specs.inside.Searching.{Searching, state_of}
use Rattle.search.specs.inside.Walks.{Within, WalksTo, Raised, WantsPair, LedTo, PassedTo, Passed, EndsIn, WalkedTo, DidWalk}
use Rattle.search.specs.declared.words.Pair.{Pair}
use Rattle.search.specs.declared.meter.Meter.{Meter}
use Rattle.search.specs.declared.walking.Halt.{Halt}
use Rattle.search.specs.declared.walking.Halt.TheVariants.{Needs, Out}

-- ---- cases that exclude each other
pub no_end : {x s : Symbol} → x ≡ s → ¬ (s ≡ End) → ¬ (x ≡ End)
no_end e n q = n (sym e ∙ q)

pub token-goes : {k : ℕ} → ¬ (Token k ≡ End)
token-goes e = clash (cc)

pub call-goes : {b : ℕ} → ¬ (Nonterminal b ≡ End)
call-goes e = clash (cc)

-- ---- walks
-- a walk, and one from where it comes to
pub walks-on : {g : Grammar} {M : Masks} {w : List ℕ} {f i p m q j : ℕ} → Walks g M w f i p m → Walks g M w p m q j → Walks g M w f i q j
walks-on v here = v
walks-on v (on u o) = on (walks-on v u) o

-- what is left of the production from place f, from members of x₀, is what is left at place p from members of x; how far that came is `high`
pub record Walking (t w ms ws : List ℕ) (f : ℕ) (x₀ : List ℕ) (high₀ p : ℕ) (x : List ℕ) (high : ℕ) : Type 0 where
  pub place : p < (grammar_in t).size
  pub within : Within w x
  pub same : (m : ℕ) → EndsFrom (grammar_in t) (masks_in ms) (marked w) (λ k. T (member x₀ k)) f m
      ↔ EndsFrom (grammar_in t) (masks_in ms) (marked w) (λ k. T (member x k)) p m
  pub walks : (m : ℕ) → T (member x m) → WalksTo t w ms ws f x₀ p m
  pub raised : Raised t w ms ws f x₀ high₀ high
  -- where what is worked out is covered, nothing that was come to is higher, and whatever covers what is left covers all
  pub low : Covered (grammar_in t) (masks_in ms) (marked w) (state_of t w ws).done high₀ → ((m : ℕ) → T (member x₀ m) → m ≤ high₀)
      → (m : ℕ) → T (member x m) → m ≤ high
  pub cover : Covered (grammar_in t) (masks_in ms) (marked w) (state_of t w ws).done high₀ → ((m : ℕ) → T (member x₀ m) → m ≤ high₀)
      → (h : ℕ) → high ≤ h → ((m : ℕ) → T (member x m) → CoveredFrom (grammar_in t) (masks_in ms) (marked w) (state_of t w ws).done h p m)
      → (m : ℕ) → T (member x₀ m) → CoveredFrom (grammar_in t) (masks_in ms) (marked w) (state_of t w ws).done h f m

pub walking-begin : (t w ms ws : List ℕ) (f : ℕ) (x : List ℕ) (high : ℕ) → f < (grammar_in t).size → Within w x → Walking t w ms ws f x high f x high
walking-begin t w ms ws f x high l inside =
    record {
      place = l;
      within = inside;
      same = λ m. (λ u. u, λ u. u);
      walks = λ m u. (m, u, here);
      raised = record { up = omega arith; came = inl refl };
      low = λ cover under. under;
      cover = λ cover under h k rest. rest;
    }

module _ {t w ms ws : List ℕ} {f : ℕ} {x₀ : List ℕ} {high₀ p : ℕ} {x : List ℕ} {high : ℕ} (s : Searching t w ms ws)
    (z : Walking t w ms ws f x₀ high₀ p x high) where
  -- a walk from a member of x
  from_first : (q j : ℕ) → WalksTo t w ms ws p x q j → WalksTo t w ms ws f x₀ q j
  from_first q j (m, u, v) = let (k, u', v') = z.walks m u in (k, u', walks-on v' v)

  raised-on : (after : ℕ) → Raised t w ms ws p x high after → Raised t w ms ws f x₀ high₀ after
  raised-on after r = record { up = let a = z.raised.up in let b = r.up in omega arith; came = go r.came }
    where
      go : (after ≡ high) ⊎ ((q : ℕ) × WalksTo t w ms ws p x q after) → (after ≡ high₀) ⊎ ((q : ℕ) × WalksTo t w ms ws f x₀ q after)
      go (inl e) = rw e z.raised.came
      go (inr (q, v)) = inr (q, from_first q after v)

  wants-on : (b j : ℕ) → WantsPair t w ms ws p x b j → WantsPair t w ms ws f x₀ b j
  wants-on b j v =
      record {
        named = v.named;
        within = v.within;
        undone = v.undone;
        place = v.place;
        faces = v.faces;
        walks = from_first v.place j v.walks;
      }

  -- ---- a turn: one symbol leads to other positions
  module _ {m m' : Meter} {r : Result Positions Halt} {y : Positions} (b : m.high ≡ high) (step : Passed t w ms ws p x m m' r) (q : r ≡ Ok y) where
    led : LedTo t w ms ws p x high m'.high y.words
    led = let made : PassedTo t w ms ws p x m.high (Ok y) m'.high = rw q at step.passed in rw b at made

    over : ¬ (facing (grammar_in t) p ≡ End) → (m : ℕ) → EndsFrom (grammar_in t) (masks_in ms) (marked w) (λ k. T (member x k)) p m
        ↔ EndsFrom (grammar_in t) (masks_in ms) (marked w) (λ k. T (member y.words k)) (suc p) m
    over n m = from-over (λ k. T (member x k)) (λ k. T (member y.words k)) n led.leads

    higher : Covered (grammar_in t) (masks_in ms) (marked w) (state_of t w ws).done high₀
        → Covered (grammar_in t) (masks_in ms) (marked w) (state_of t w ws).done high
    higher cover a i b f v e = covered_more (λ c k u. u) z.raised.up (cover a i b f v e)

    up : high ≤ m'.high
    up = rw b at step.raised.up

    pub walking_on : ¬ (facing (grammar_in t) p ≡ End) → Walking t w ms ws f x₀ high₀ (p + 1) y.words m'.high
    walking_on n =
        rw (add-one p)
        (record {
          place = ready-next t s.given.ready p z.place n;
          within = led.within;
          same = λ m. (λ u. (over n m).0 ((z.same m).0 u), λ u. (z.same m).1 ((over n m).1 u));
          walks = λ m u. let (j, v, o) = (led.leads m).0 u in let (k, v', q) = z.walks j v in (k, v', on q o);
          raised = raised-on m'.high (rw b at step.raised);
          low = λ cover under. led.low (higher cover) (z.low cover under);
          cover = λ cover under h l rest.
              z.cover cover under h (let a = up in omega arith)
              (λ m u. covered-over (state_of t w ws).done h (let a = z.low cover under m u in let b = up in omega arith) (λ c e. led.asked m c u e)
              (λ j o. rest j ((led.leads j).1 (m, u, o))));
        })

  -- ---- ways out: at the production's end; and where a step could not be done
  pub walked_end : facing (grammar_in t) p ≡ End → EndsIn t w ms ws f x₀ high₀ high x
  walked_end e =
      record {
        within = z.within;
        ends = λ m. (λ u. (at m).0 ((z.same m).0 u), λ u. (z.same m).1 ((at m).1 u));
        cover = λ cover under.
            z.cover cover under high (omega arith) (λ m u. covered-end (state_of t w ws).done high (z.low cover under m u) e);
      }
    where
      at : (m : ℕ) → EndsFrom (grammar_in t) (masks_in ms) (marked w) (λ k. T (member x k)) p m ↔ T (member x m)
      at m = from_end (λ k. T (member x k)) e (λ k u. let a = z.within k u in omega (arith, length_marked w))

  pub walked-stops : {m₀ m m' : Meter} {r : Result Positions Halt} {h : Halt} → m₀.high ≡ high₀ → m.high ≡ high → m.left ≤ m₀.left
      → Passed t w ms ws p x m m' r → r ≡ Err h → DidWalk t w ms ws f x₀ m₀ m' (Err h)
  walked-stops {m₀} {m} {m'} {r} {h} a b l step q =
      record {
        spent = let u = step.spent in omega arith;
        raised = rw a (raised-on m'.high (rw b at step.raised));
        walked = go h (rw q at step.passed);
      }
    where
      go : (h : Halt) → PassedTo t w ms ws p x m.high (Err h) m'.high → WalkedTo t w ms ws f x₀ m₀.high (Err h) m'.high
      go (Needs n) u = wants-on n.nonterminal n.position u
      go Out u = u
