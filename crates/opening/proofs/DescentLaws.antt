-- From a place down over open frames, frame by frame: what is kept on the way, and what each way out says.
use mathlib.Core.Path.{◌≡◌, refl, ◌∙◌}
use mathlib.Core.Logic.{◌↔◌}
use mathlib.Core.Bool.{true, false}
use mathlib.Core.List.{List, ◌∷◌}
use Prim.Native.Nat.{ℕ, suc, ◌+◌, ◌*◌, ◌≤◌, ◌<◌}
use native.Mathlib.Omega.{arith}
use native.Mathlib.Decide.{dec_lt, ℕ_discrete}
use lib.Dec.{T, eqb, eqb→eq, eqb_refl}
use lib.ListN.{length, get_or}
use Rattle.std.specs.Prelude.{Result, Ok, Err, IfOk}
use Rattle.grammar.specs.Grammar.{owner}
use Rattle.grammar.specs.inside.Tables.{grammar_in, nonterminals_in}
use Rattle.grammar.specs.inside.Ordered.{Ordered}
use Rattle.positions.specs.inside.Positions.{member}
use Rattle.positions.specs.inside.Words.{set_at}
use Rattle.derivation.specs.Runs.{marked, Opens}
use Rattle.derivation.specs.inside.Frames.{frame_words, returns_of}
use Rattle.derivation.proofs.ReadyLaws.{ready-ordered}
use Rattle.first_follow.specs.inside.Masks.{Closed}
use Rattle.first_follow.specs.inside.Words.{masks_in}
use Rattle.filtering.specs.inside.Filtered.{Over}
use Rattle.filtering.specs.inside.Cover.{on}
use Rattle.filtering.specs.inside.OpenStacks.{Open, Reached}
use Rattle.filtering.proofs.OpensLaws.{opens-place, opens-from}
use Rattle.filtering.proofs.StackLaws.{open-call}
use Rattle.search.specs.inside.Words.{search_words, pair_set}
use Rattle.search.specs.inside.Searching.{Searching, set_of}
use Rattle.search.specs.inside.Ways.{MayGo, EndsAt, EndsNowhere, GoesOn}
use Rattle.search.specs.inside.Trials.{CameSoFar}
use Rattle.search.specs.inside.Places.{Placed}
use Rattle.search.proofs.ReplyLaws.{placed}
use Rattle.opening.specs.inside.Marks.{mark_at, mark_if_new, meets_of, Marks}
use Rattle.opening.specs.inside.Stacks.{Stacked, StackKept}
use Rattle.opening.specs.inside.Leading.{Worked, Led}
use Rattle.opening.specs.inside.Descent.{MayDescend, MaySpread, ComesTo, Descended, AllCome, Scattered}
use Rattle.search.specs.declared.words.Size.{Size}
use Rattle.search.specs.declared.meter.Meter.{Meter}
use Rattle.search.specs.declared.meter.Exhausted.{Exhausted}
use Rattle.search.specs.declared.ways.Way.{Way}
use Rattle.opening.specs.declared.descent.Descent.{Descent}
use Rattle.opening.proofs.KeptLaws.{searching-on, returns-kept, stack-begins, stack-then, stack-on}
use Rattle.opening.proofs.MarkLaws.{meets-T, mark-there, mark-other, mark-known, kept-worked, kept-mark, came-mark}
use Rattle.opening.proofs.FrameLaws.{open-some, returns-top, opens-lowest, next_place, opens-single, walks-owner}
use Rattle.opening.proofs.FrameLaws.{reached-on, reached-below, reached-top}

-- ---- what every way down keeps
-- from words ws₀ and meter m: the frames, and where R holds, the search came so far as the meter says
pub record Going (t w ms ws₀ : List ℕ) (base known : ℕ) (R : Type 0) (m : Meter) (ws : List ℕ) (at : Meter) : Type 0 where
  pub kept : StackKept t w ms ws₀ ws base known
  pub spent : at.left ≤ m.left
  pub far : R → CameSoFar t w ms ws₀ m.high → CameSoFar t w ms ws at.high

module _ {t w ms ws₀ : List ℕ} {base known : ℕ} {R : Type 0} {m : Meter} where
  pub going-none : {s : Size} {d : ℕ} → Stacked t w ms ws₀ s base d known → Going t w ms ws₀ base known R m ws₀ m
  going-none x = record { kept = stack-begins x; spent = omega arith; far = λ r y. y }

  -- pairs were worked out
  pub going-worked : {ws after : List ℕ} {at r paid : Meter} → search_words (nonterminals_in t) (length w) ≤ base
      → Going t w ms ws₀ base known R m ws at → Worked t w ms ws after at r → (R → CameSoFar t w ms ws at.high → CameSoFar t w ms after r.high)
      → paid.left ≤ r.left → paid.high ≡ r.high → Going t w ms ws₀ base known R m after paid
  going-worked {ws} {after} b x y f l e = record {
    kept = kept-worked t w ms base known b ws₀ ws after y.kept y.holds x.kept;
    spent = omega (arith, x.spent, y.spent);
    far = λ r c. rw e (f r (x.far r c));
  }

  -- a frame was marked
  going-marked : {ws : List ℕ} {at : Meter} (k j : ℕ) → search_words (nonterminals_in t) (length w) ≤ base
      → Going t w ms ws₀ base known R m ws at → Going t w ms ws₀ base known R m (mark_if_new ws base known k j) at
  going-marked {ws} k j b x = record {
    kept = kept-mark t w ms base known b ws₀ ws k j x.kept;
    spent = x.spent;
    far = λ r c. came-mark t w ms base known b ws k j (x.far r c);
  }

  -- the search may go on, and so may whoever goes down the lowest k frames
  pub going-searching : {ws : List ℕ} {at : Meter} → Searching t w ms ws₀ → Going t w ms ws₀ base known R m ws at → Searching t w ms ws
  going-searching s x = searching-on s x.kept.long x.kept.holds

  going-stacked : {ws : List ℕ} {at : Meter} {s : Size} {d k : ℕ} → Stacked t w ms ws₀ s base d known → Going t w ms ws₀ base known R m ws at → k ≤ d
      → Stacked t w ms ws s base k known
  going-stacked h x l =
      let y = stack-on h x.kept in
      record { searching = y.searching; sized = y.sized; behind = y.behind; room = omega (arith, y.room); marks = y.marks }

-- ---- one place at one position
-- the stack S at position j stands for place q over d frames at i; frames from k on that have got marks have the right ones
pub record Down (t w ms ws₀ : List ℕ) (base d known q i : ℕ) (m : Meter) (ws : List ℕ) (at : Meter) (S : List ℕ) (j k : ℕ) : Type 0 where
  pub going : Going t w ms ws₀ base known (Reached (grammar_in t) (marked w) (q ∷ returns_of ws₀ base d) i) m ws at
  pub position : j ≤ length w
  pub same : Opens (grammar_in t) (marked w) (q ∷ returns_of ws₀ base d) i ↔ Opens (grammar_in t) (marked w) S j
  pub reached : Reached (grammar_in t) (marked w) (q ∷ returns_of ws₀ base d) i → Reached (grammar_in t) (marked w) S j
  pub marks : (l : ℕ) → k ≤ l → l < d → known ≤ l → Opens (grammar_in t) (marked w) S j
      → Opens (grammar_in t) (marked w) (returns_of ws₀ base (suc l)) (mark_at ws base l)

-- place p of an open production at position j over the lowest k frames
pub record Downwards (t w ms ws₀ : List ℕ) (base d known q i : ℕ) (m : Meter) (ws : List ℕ) (at : Meter) (p j k : ℕ) : Type 0 where
  pub down : Down t w ms ws₀ base d known q i m ws at (p ∷ returns_of ws₀ base k) j k
  pub low : k ≤ d
  pub stack : Open (grammar_in t) (owner (grammar_in t) p) (returns_of ws₀ base k)
  pub place : p < (grammar_in t).size

module _ {t w ms ws₀ : List ℕ} {s : Size} {base d known : ℕ} where
  pub stack-order : Stacked t w ms ws₀ s base d known → Ordered (grammar_in t)
  stack-order x = ready-ordered t x.searching.given.ready

  pub stack-closed : Stacked t w ms ws₀ s base d known → Closed (grammar_in t) (masks_in ms)
  stack-closed x = x.searching.given.closed

module _ {t w ms ws₀ : List ℕ} {s : Size} {base d known q i : ℕ} {m : Meter} (may : MayDescend t w ms ws₀ s base d known q i) where
  pub down-begins : Downwards t w ms ws₀ base d known q i m ws₀ m q i d
  down-begins = record {
    down = record {
      going = going-none may.stacked;
      position = may.position;
      same = (λ x. x, λ x. x);
      reached = λ x. x;
      marks = λ l a b. absurd (omega arith);
    };
    low = omega arith;
    stack = may.stack;
    place = may.place;
  }

  module _ {ws : List ℕ} {at : Meter} {p j k : ℕ} (x : Downwards t w ms ws₀ base d known q i m ws at p j k) where
    pub down-some : 0 < k
    down-some = open-some ws₀ base k x.stack

    pub down-go : MayGo t w ms ws s p j
    down-go = record {
      searching = going-searching may.stacked.searching x.down.going;
      sized = may.stacked.sized;
      place = x.place;
      position = x.down.position;
    }

    -- where the place leads is known, in other words
    pub down-kept : {us : List ℕ} {r : Meter} → Worked t w ms ws us at r → StackKept t w ms ws₀ us base known
    down-kept {us} y = kept-worked t w ms base known may.stacked.behind ws₀ ws us y.kept y.holds x.down.going.kept

    -- the budget is out
    pub down_out : {us : List ℕ} {r last : Meter} {z : Exhausted} → Worked t w ms ws us at r → last.left ≤ r.left
        → Descended t w ms ws₀ us base d known q i m last (Err z)
    down_out y l = record { kept = down-kept y; spent = omega (arith, x.down.going.spent, y.spent); told = tt }

    pub down-led : {us : List ℕ} {r paid : Meter} {way : Way} → Led t w ms ws us p j at r (Ok way) → paid.left ≤ r.left → paid.high ≡ r.high
        → Downwards t w ms ws₀ base d known q i m us paid p j k
    down-led y l e = record {
      down = record {
        going = going-worked may.stacked.behind x.down.going y.worked
            (λ z c. y.there.far (reached-top ws₀ base k down-some (x.down.reached z)) c) l e;
        position = x.down.position;
        same = x.down.same;
        reached = x.down.reached;
        marks = λ n a b c o. rw (y.worked.kept.word (base + frame_words * n + 1) (omega (arith, may.stacked.behind))) (x.down.marks n a b c o);
      };
      low = x.low;
      stack = x.stack;
      place = x.place;
    }

    -- ---- nowhere
    pub down-nowhere : {n : ℕ} → EndsNowhere t w ms ws p j n
        → Descended t w ms ws₀ ws base d known q i m at (Ok (record { yes = false; single = false }))
    down-nowhere y = record {
      kept = x.down.going.kept;
      spent = x.down.going.spent;
      told = record {
        answer = (
          λ z. absurd z,
          λ o.
              let (n, e, u) = (opens-place (stack-order may.stacked) (stack-closed may.stacked) x.stack).0 (x.down.same.0 o) in absurd (y.none n e),
        );
        all-marked = λ z. absurd z;
        far = x.down.going.far;
      };
    }

    -- ---- to several positions
    module _ {r b n : ℕ} (y : GoesOn t w ms ws p j r b n) where
      abbrev Members : ℕ → Type 0
      Members e = T (member (set_of t w ws b n) e)

      same-returns : returns_of ws base k ≡ returns_of ws₀ base k
      same-returns = returns-kept ws₀ ws base k x.down.going.kept.places

      goes-stack : Open (grammar_in t) (owner (grammar_in t) r) (returns_of ws₀ base k)
      goes-stack =
          let order = stack-order may.stacked in
          rw y.behind (open-call order y.came.place b y.faces (rw (walks-owner order y.came.walks) x.stack))

      pub down-set : Placed s (record { nonterminal = b; position = n }) ws
      down-set = placed (going-searching may.stacked.searching x.down.going) may.stacked.sized (y.named, y.came.within)

      down-spread : MaySpread t w ms ws s base k known r (set_of t w ws b n)
      down-spread = record {
        stacked = going-stacked may.stacked x.down.going x.low;
        stack = rw same-returns goes-stack;
        place = y.within;
        within = y.members;
      }

      down-several : {after : List ℕ} {last : Meter} {a : Result Descent Exhausted}
          → Scattered t w ms ws after base k known r (set_of t w ws b n) at last a → Descended t w ms ws₀ after base d known q i m last a
      down-several {after} {last} {a} z = record {
        kept = stack-then x.down.going.kept z.kept;
        spent = omega (arith, z.spent, x.down.going.spent);
        told = go a z.told;
      }
        where
          to : Opens (grammar_in t) (marked w) (p ∷ returns_of ws₀ base k) j → (e : ℕ) × Members e
              × Opens (grammar_in t) (marked w) (r ∷ returns_of ws base k) e
          to o =
              let (e, u, v) = (opens-place (stack-order may.stacked) (stack-closed may.stacked) x.stack).0 o in
              rw same-returns ((opens-from (stack-order may.stacked) (stack-closed may.stacked) Members goes-stack).1 (e, (y.ends e).0 u, v))

          from : (e : ℕ) × Members e × Opens (grammar_in t) (marked w) (r ∷ returns_of ws base k) e
              → Opens (grammar_in t) (marked w) (p ∷ returns_of ws₀ base k) j
          from o =
              let (e, u, v) = (opens-from (stack-order may.stacked) (stack-closed may.stacked) Members goes-stack).0 (rw same-returns at o) in
              (opens-place (stack-order may.stacked) (stack-closed may.stacked) x.stack).1 (e, (y.ends e).1 u, v)

          still : (e : ℕ) → Members e → Reached (grammar_in t) (marked w) (p ∷ returns_of ws₀ base k) j
              → Reached (grammar_in t) (marked w) (r ∷ returns_of ws base k) e
          still e h u =
              rw (same-returns, y.behind) (reached-on (returns_of ws₀ base k) u (on y.came.walks (Over.call y.faces ((y.pair e).1 h))))

          go : (a : Result Descent Exhausted) → IfOk a (λ c. AllCome t w ms ws after base k r (set_of t w ws b n) at.high last.high c)
              → IfOk a (λ c. ComesTo t w ms ws₀ after base d q i m.high last.high c)
          go (Ok c) y = record {
            answer = (λ u. x.down.same.1 (from (y.answer.0 u)), λ o. y.answer.1 (to (x.down.same.0 o)));
            all-marked = λ u v. absurd (y.several v);
            far = λ u v. y.far (λ e h. still e h (x.down.reached u)) (x.down.going.far u v);
          }
          go (Err e) y = tt

    -- ---- to one position, on the frame below
    module _ {l n : ℕ} (y : EndsAt t w ms ws p j n) (e : k ≡ suc l) where
      pub down-room : (base + frame_words * suc l ≤ length ws) × (n < 4294967296)
      down-room =
          (omega (arith, may.stacked.room, x.low, x.down.going.kept.long), omega (arith, y.came.within, may.stacked.searching.given.short))

      down-frame : Down t w ms ws₀ base d known q i m (mark_if_new ws base known l n) at (returns_of ws₀ base (suc l)) n l
      down-frame = record {
        going = going-marked l n may.stacked.behind x.down.going;
        position = y.came.within;
        same = (λ o. single.0 (x.down.same.0 o), λ o. x.down.same.1 (single.1 o));
        reached = λ u. reached-below (returns_of ws₀ base (suc l)) (rw e at (x.down.reached u)) ((y.ends n).1 refl);
        marks = λ f a b c o. mark f a b c o (ℕ_discrete f l);
      }
        where
          single : Opens (grammar_in t) (marked w) (p ∷ returns_of ws₀ base k) j ↔ Opens (grammar_in t) (marked w) (returns_of ws₀ base (suc l)) n
          single = rw (← e) (opens-single (stack-order may.stacked) (stack-closed may.stacked) x.stack y.ends)

          mark : (f : ℕ) → l ≤ f → f < d → known ≤ f → Opens (grammar_in t) (marked w) (returns_of ws₀ base (suc l)) n → Dec (f ≡ l)
              → Opens (grammar_in t) (marked w) (returns_of ws₀ base (suc f)) (mark_at (mark_if_new ws base known l n) base f)
          mark f a b c o (yes h) = rw (h, mark-there ws base known l n (omega arith) down-room.0) o
          mark f a b c o (no h) = rw (mark-other ws base known l n f h) (x.down.marks f (omega arith) b c (single.1 o))

      down-open : Open (grammar_in t) (owner (grammar_in t) p) (returns_of ws₀ base (suc l))
      down-open = rw (← e) x.stack

  -- ---- at a frame
  module _ {ws : List ℕ} {at : Meter} {j l : ℕ} (x : Down t w ms ws₀ base d known q i m ws at (returns_of ws₀ base (suc l)) j l) where
    -- marks of all frames, if it leads to the end
    all-marks : ((f : ℕ) → known ≤ f → l ≤ f) → Opens (grammar_in t) (marked w) (returns_of ws₀ base (suc l)) j
        → Marks (grammar_in t) (marked w) ws base d
    all-marks h o f b = go (dec_lt f known)
      where
        go : Dec (f < known) → Opens (grammar_in t) (marked w) (returns_of ws base (suc f)) (mark_at ws base f)
        go (yes c) = x.going.kept.marks f c
        go (no c) = rw (returns-kept ws₀ ws base (suc f) x.going.kept.places) (x.marks f (h f (omega arith)) b (omega arith) o)

    -- the mark of the frame says so
    down-met : l < known → mark_at ws base l ≡ j → Descended t w ms ws₀ ws base d known q i m at (Ok (record { yes = true; single = true }))
    down-met c e = record {
      kept = x.going.kept;
      spent = x.going.spent;
      told = record {
        answer = (λ u. x.same.1 here, λ u. tt);
        all-marked = λ u v. all-marks (λ f b. omega arith) here;
        far = x.going.far;
      };
    }
      where
        here : Opens (grammar_in t) (marked w) (returns_of ws₀ base (suc l)) j
        here = rw (returns-kept ws₀ ws base (suc l) x.going.kept.places, e) at (x.going.kept.marks l c)

    -- it is the lowest, where the note's end is due
    down-lowest : {a n : ℕ} → l ≡ 0 → n ≡ length w → Open (grammar_in t) a (returns_of ws₀ base (suc l))
        → Descended t w ms ws₀ ws base d known q i m at (Ok (record { yes = eqb j n; single = true }))
    down-lowest {a} {n} z h o = record {
      kept = x.going.kept;
      spent = x.going.spent;
      told = record {
        answer = (λ u. x.same.1 (here u), λ u. there (ends.0 (x.same.0 u)));
        all-marked = λ u v. all-marks (λ f c. omega arith) (here u);
        far = x.going.far;
      };
    }
      where
        ends : Opens (grammar_in t) (marked w) (returns_of ws₀ base (suc l)) j ↔ (j ≡ length w)
        ends = rw z (opens-lowest ws₀ base t w may.stacked.searching.given.ready j (rw z at o))

        here : T (eqb j n) → Opens (grammar_in t) (marked w) (returns_of ws₀ base (suc l)) j
        here u = ends.1 (eqb→eq j n u ∙ h)

        there : j ≡ length w → T (eqb j n)
        there u = rw (u, h) (eqb_refl (length w))

    -- or the next place to go on from
    down-next : {a p : ℕ} → ¬ (l ≡ 0) → suc l ≤ d → Open (grammar_in t) a (returns_of ws₀ base (suc l)) → p ≡ get_or ws (base + frame_words * l) 0
        → Downwards t w ms ws₀ base d known q i m ws at p j l
    down-next {a} {p} z h o e =
        let y = next_place ws₀ base t w may.stacked.searching.given.ready l p (omega arith) o (e ∙ x.going.kept.places l) in
        let f : returns_of ws₀ base (suc l) ≡ p ∷ returns_of ws₀ base l = returns-top ws₀ base l p (e ∙ x.going.kept.places l) in
        record { down = rw f at x; low = omega arith; stack = y.1; place = y.0 }

-- ---- as the code goes: the words that it left, the set that it read
module _ {t w ms ws₀ : List ℕ} {s : Size} {base d known q i : ℕ} {m : Meter} (may : MayDescend t w ms ws₀ s base d known q i) {ws : List ℕ} {at : Meter}
    {p j k : ℕ} (x : Downwards t w ms ws₀ base d known q i m ws at p j k) where
  module _ {r b n : ℕ} (y : GoesOn t w ms ws p j r b n) {v : List ℕ} (e : v ≡ set_at ws (pair_set s.nonterminals s.n b n)) where
    read_set : v ≡ set_of t w ws b n
    read_set = rw (← may.stacked.sized.names, ← may.stacked.sized.tokens) e

    pub spread-may : MaySpread t w ms ws s base k known r v
    spread-may = rw read_set (down-spread may x y)

    pub spread-did : {after : List ℕ} {last : Meter} {a : Result Descent Exhausted} → Scattered t w ms ws after base k known r v at last a
        → Descended t w ms ws₀ after base d known q i m last a
    spread-did z = down-several may x y (rw read_set at z)

  module _ {l n : ℕ} (y : EndsAt t w ms ws p j n) (e : k ≡ suc l) {us : List ℕ} (f : us ≡ mark_if_new ws base known l n) where
    frame-there : Down t w ms ws₀ base d known q i m us at (returns_of ws₀ base (suc l)) n l
    frame-there = rw f (down-frame may x y e)

    pub frame-kept : StackKept t w ms ws₀ us base known
    frame-kept = frame-there.going.kept

    pub frame-met : T (meets_of ws base known l n) → Descended t w ms ws₀ us base d known q i m at (Ok (record { yes = true; single = true }))
    frame-met u =
        let z = meets-T ws base known l n u in
        down-met may frame-there z.0 (rw f (mark-known ws base known l n l z.0) ∙ z.1)

    pub frame-lowest : {o : ℕ} → l ≡ 0 → o ≡ length w → Descended t w ms ws₀ us base d known q i m at (Ok (record { yes = eqb n o; single = true }))
    frame-lowest z h = down-lowest may frame-there z h (down-open may x y e)

    pub frame-next : {o : ℕ} → ¬ (l ≡ 0) → o ≡ get_or us (base + frame_words * l) 0 → Downwards t w ms ws₀ base d known q i m us at o n l
    frame-next z h = down-next may frame-there z (omega (arith, x.low)) (down-open may x y e) h
