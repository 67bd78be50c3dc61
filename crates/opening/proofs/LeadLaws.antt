-- Along a production and from a set of positions, turn by turn: each turn works out the pair that the one before needed.
use mathlib.Core.Path.{◌≡◌, ◌∙◌}
use mathlib.Core.Logic.{◌⊎◌, inl, inr}
use mathlib.Core.List.{List}
use Prim.Native.Nat.{ℕ, ◌≤◌}
use native.Mathlib.Omega.{arith}
use lib.Dec.{T}
use Rattle.std.specs.Prelude.{Result, Ok, Err}
use Rattle.positions.specs.declared.Positions.{Positions}
use Rattle.grammar.specs.inside.Tables.{grammar_in}
use Rattle.positions.specs.inside.Positions.{member}
use Rattle.derivation.specs.Runs.{marked}
use Rattle.derivation.specs.inside.Reach.{Reach}
use Rattle.filtering.specs.inside.Cover.{Called}
use Rattle.filtering.specs.inside.Settling.{Came}
use Rattle.filtering.proofs.WalkLaws.{walks-reach, covered_more}
use Rattle.search.specs.inside.Searching.{Searching, Holds, MayAsk}
use Rattle.search.specs.inside.Ways.{MayGo, Went, Lacks}
use Rattle.search.specs.inside.Walks.{MayWalk, Raised, WantsPair, EndsIn, WalksTo}
use Rattle.search.specs.inside.Trials.{CameSoFar, Settled}
use Rattle.opening.specs.inside.Leading.{Worked, Led, LedAll}
use Rattle.search.specs.declared.words.Size.{Size}
use Rattle.search.specs.declared.meter.Meter.{Meter}
use Rattle.search.specs.declared.meter.Exhausted.{Exhausted}
use Rattle.search.specs.declared.words.Pair.{Pair}
use Rattle.search.specs.declared.ways.Way.{Way}
use Rattle.search.specs.declared.ways.Way.TheVariants.{Needs}
use Rattle.opening.proofs.KeptLaws.{same-words, searching-on}

-- after some turns from words ws₀ and meter m: pairs were worked out, and where R holds, that came so far as the meter says
pub record Turned (t w ms ws₀ : List ℕ) (R : Type 0) (m : Meter) (ws : List ℕ) (at : Meter) : Type 0 where
  pub worked : Worked t w ms ws₀ ws m at
  pub far : R → CameSoFar t w ms ws₀ m.high → CameSoFar t w ms ws at.high

module _ {t w ms ws₀ : List ℕ} {R : Type 0} {m : Meter} where
  pub turned_none : Holds t w ms ws₀ → Turned t w ms ws₀ R m ws₀ m
  turned_none h =
      record { worked = record { kept = same-words _ ws₀; holds = h; spent = omega arith }; far = λ r x. x }

  -- a pair is worked out
  pub turned-worked : {ws after : List ℕ} {at spent : Meter} {a i : ℕ} {z : Result (Unit {0}) Exhausted} → Turned t w ms ws₀ R m ws at
      → Settled t w ms ws after a i at spent z → Worked t w ms ws₀ after m spent
  turned-worked x s = record {
    kept = record { long = s.kept.long ∙ x.worked.kept.long; word = λ j h. s.kept.word j h ∙ x.worked.kept.word j h };
    holds = s.holds;
    spent = omega (arith, s.spent, x.worked.spent);
  }

  -- one that is called where R holds
  pub turned-settled : {ws after : List ℕ} {at spent paid : Meter} {a i : ℕ} {z : Result (Unit {0}) Exhausted} → Turned t w ms ws₀ R m ws at
      → Settled t w ms ws after a i at spent z → (R → Called (grammar_in t) (marked w) a i) → paid.left ≤ spent.left → paid.high ≡ spent.high
      → Turned t w ms ws₀ R m after paid
  turned-settled x s c l e =
      let y = turned-worked x s in
      record { worked = record { kept = y.kept; holds = y.holds; spent = omega (arith, y.spent) }; far = λ r z. rw e (s.far (c r) (x.far r z)) }

  turned-searching : {ws : List ℕ} {at : Meter} → Searching t w ms ws₀ → Turned t w ms ws₀ R m ws at → Searching t w ms ws
  turned-searching s x = searching-on s x.worked.kept.long x.worked.holds

  -- ---- what each turn may do
  pub may-go : {ws : List ℕ} {at : Meter} {s : Size} {p i : ℕ} → MayGo t w ms ws₀ s p i → Turned t w ms ws₀ R m ws at → MayGo t w ms ws s p i
  may-go h x = record { searching = turned-searching h.searching x; sized = h.sized; place = h.place; position = h.position }

  pub may-walk : {ws : List ℕ} {at : Meter} {s : Size} {p : ℕ} {y : List ℕ} → MayWalk t w ms ws₀ s p y → Turned t w ms ws₀ R m ws at
      → MayWalk t w ms ws s p y
  may-walk h x = record { searching = turned-searching h.searching x; sized = h.sized; place = h.place; within = h.within }

  pub may-lack : {ws : List ℕ} {at : Meter} {s : Size} {p i b j : ℕ} → MayGo t w ms ws₀ s p i → Turned t w ms ws₀ R m ws at
      → Lacks t w ms ws p i b j → MayAsk t w ms ws s b j
  may-lack h x l = record { searching = turned-searching h.searching x; sized = h.sized; pair = (l.named, l.came.within) }

  pub may-want : {ws : List ℕ} {at : Meter} {s : Size} {p b j : ℕ} {y : List ℕ} → MayWalk t w ms ws₀ s p y → Turned t w ms ws₀ R m ws at
      → WantsPair t w ms ws p y b j → MayAsk t w ms ws s b j
  may-want h x l = record { searching = turned-searching h.searching x; sized = h.sized; pair = (l.named, l.within) }

-- ---- what a turn needs is called, if the place is reached
pub lacks-called : {t w ms ws : List ℕ} {p i b j : ℕ} → Lacks t w ms ws p i b j → Reach (grammar_in t) (marked w) p i → Called (grammar_in t) (marked w) b j
lacks-called l x = Called.behind (walks-reach x l.came.walks) l.faces

pub wants-called : {t w ms ws : List ℕ} {p b j : ℕ} {y : List ℕ} → WantsPair t w ms ws p y b j
    → ((i : ℕ) → T (member y i) → Reach (grammar_in t) (marked w) p i) → Called (grammar_in t) (marked w) b j
wants-called l x = let (n, h, v) = l.walks in Called.behind (walks-reach (x n h) v) l.faces

-- ---- from a set, how far it came is raised on the way
module _ {t w ms : List ℕ} {p : ℕ} {y : List ℕ} where
  raised-came : {ws : List ℕ} {high after : ℕ} → Raised t w ms ws p y high after → ((i : ℕ) → T (member y i) → Reach (grammar_in t) (marked w) p i)
      → CameSoFar t w ms ws high → CameSoFar t w ms ws after
  raised-came {ws} {high} {after} r x c = record {
    cover = λ a i b f d e. covered_more (λ a k h. h) r.up (c.cover a i b f d e);
    came = go r.came;
  }
    where
      go : (after ≡ high) ⊎ ((q : ℕ) × WalksTo t w ms ws p y q after) → Came (grammar_in t) (marked w) after
      go (inl e) = rw e c.came
      go (inr (q, (n, h, v))) = inr (q, walks-reach (x n h) v)

  pub turned-walked : {ws₀ ws : List ℕ} {m at after : Meter} → Turned t w ms ws₀ ((i : ℕ) → T (member y i) → Reach (grammar_in t) (marked w) p i) m ws at
      → after.left ≤ at.left → Raised t w ms ws p y at.high after.high
      → Turned t w ms ws₀ ((i : ℕ) → T (member y i) → Reach (grammar_in t) (marked w) p i) m ws after
  turned-walked x l r = record {
    worked = record { kept = x.worked.kept; holds = x.worked.holds; spent = omega (arith, x.worked.spent) };
    far = λ h c. raised-came r h (x.far h c);
  }

-- ---- the ways out
module _ {t w ms ws₀ ws : List ℕ} {p i : ℕ} {m m' : Meter} where
  -- where it leads is known
  pub led-there : {way : Way} → Turned t w ms ws₀ (Reach (grammar_in t) (marked w) p i) m ws m' → Went t w ms ws p i way
      → ((n : Pair) → ¬ (way ≡ Needs n)) → Led t w ms ws₀ ws p i m m' (Ok way)
  led-there x y n = record { worked = x.worked; there = record { went = y; needs-none = n; far = x.far } }

  -- the budget is out
  pub led-out : {z : Exhausted} → Worked t w ms ws₀ ws m m' → Led t w ms ws₀ ws p i m m' (Err z)
  led-out x = record { worked = x; there = tt }

module _ {t w ms ws₀ ws : List ℕ} {p : ℕ} {y : List ℕ} {m m' : Meter} where
  pub scattered-there : {high after : ℕ} {to : Positions} → Turned t w ms ws₀ ((i : ℕ) → T (member y i) → Reach (grammar_in t) (marked w) p i) m ws m'
      → EndsIn t w ms ws p y high after to.words → LedAll t w ms ws₀ ws p y m m' (Ok to)
  scattered-there x e = record { worked = x.worked; there = record { within = e.within; ends = e.ends; far = x.far } }

  pub scattered-out : {z : Exhausted} → Worked t w ms ws₀ ws m m' → LedAll t w ms ws₀ ws p y m m' (Err z)
  scattered-out x = record { worked = x; there = tt }
