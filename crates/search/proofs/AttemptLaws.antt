-- The loop over the alternatives of a pair: what is known when some of them were tried, one more by each way that it may lead, and all.
use mathlib.Core.Path.{◌≡◌, refl, sym, subst}
use mathlib.Core.Logic.{◌↔◌, ◌⊎◌, inl, inr}
use mathlib.Core.Option.{some}
use mathlib.Core.Bool.{Bool, true, false, cond}
use mathlib.Core.List.{List}
use Prim.Native.Nat.{ℕ, suc, ◌≤◌, max}
use native.Mathlib.Omega.{arith}
use lib.Dec.{T}
use lib.ListN.{length}
use Rattle.std.specs.Prelude.{Result, Ok, Err}
use Rattle.base.proofs.Booleans.{true→T, false→¬T}
use Rattle.grammar.specs.Grammar.{alternatives, first}
use Rattle.grammar.specs.inside.Tables.{grammar_in}
use Rattle.positions.specs.inside.Positions.{member}
use Rattle.derivation.specs.Runs.{marked}
use Rattle.derivation.specs.inside.Ready.{Ready}
use Rattle.derivation.proofs.CountLaws.{one-at-least, first-within}
use Rattle.first_follow.specs.inside.Words.{masks_in}
use Rattle.filtering.specs.inside.Beginnings.{token_at}
use Rattle.filtering.specs.inside.Filtered as filtered
use Rattle.filtering.specs.inside.Tags as tags
use Rattle.filtering.specs.inside.Cover.{Walks, here, on, CoveredFrom, CoveredTo, Covered, Called}
use Rattle.filtering.specs.inside.Settling.{Came}
use Rattle.filtering.proofs.PartLaws.{tagged-skip, tagged-one}
use Rattle.filtering.proofs.PairLaws.{tagged-none, tagged-all}
use Rattle.filtering.proofs.TurnLaws.{turn-begin}
use Rattle.filtering.proofs.WalkLaws.{ends-high, walks-called, covered_more}
use Rattle.filtering.proofs.SettleLaws.{walks-came, came-max, covered_none, covered_next, covered-all}
use Rattle.search.specs.inside.Searching.{state_of, set_of}
use Rattle.search.specs.inside.Ways.{EndsAt, EndsNowhere, Lacks, GoesOn}
use Rattle.search.specs.inside.Walks.{WalksTo, WantsPair}
use Rattle.search.specs.inside.Trials.{told_by, EndsFit, JoinedEnds, BranchedTo, Branched, NeedsPair, TriedAs, Higher, DidTry}
use Rattle.search.specs.declared.words.Pair.{Pair}
use Rattle.search.specs.declared.meter.Meter.{Meter}
use Rattle.search.specs.declared.adding.Ends.{Ends}
use Rattle.search.specs.declared.walking.Halt.{Halt}
use Rattle.search.specs.declared.walking.Halt.TheVariants.{Needs, Out}
use Rattle.search.proofs.WalkSteps.{walks-on}

module _ (t w ms ws : List ℕ) (a i : ℕ) (m : Meter) where
  -- the alternatives up to k were tried
  pub record Trying (k : ℕ) (e : Ends) (at : Meter) : Type 0 where
    pub fits : EndsFit e
    pub tagged : tags.TaggedTo (grammar_in t) (masks_in ms) (marked w) a i k (told_by e)
    pub spent : at.left ≤ m.left
    pub higher : Higher t w ms ws a i m.high at.high
    pub covers : Covered (grammar_in t) (masks_in ms) (marked w) (state_of t w ws).done m.high
        → CoveredTo (grammar_in t) (masks_in ms) (marked w) (state_of t w ws).done at.high a i k

  pub trying-none : {k : ℕ} {e : Ends} → k ≡ 0 → told_by e ≡ tags.no_end → EndsFit e → Trying k e m
  trying-none {k} {e} z q f = record {
    fits = f;
    tagged = rw (z, q) (tagged-none (grammar_in t) (masks_in ms) (marked w) a i);
    spent = omega arith;
    higher = record { up = omega arith; came = λ c h. h };
    covers = λ c. subst (λ (k : ℕ). CoveredTo (grammar_in t) (masks_in ms) (marked w) (state_of t w ws).done m.high a i k) (sym z)
        (covered_none a i m.high);
  }

  -- all alternatives were tried
  pub trying-all : {k : ℕ} {e : Ends} {at : Meter} → Trying k e at → length (alternatives (grammar_in t) a) ≤ k
      → DidTry t w ms ws a i m at (Ok e)
  trying-all {k} {e} {at} x l = record {
    spent = x.spent;
    higher = x.higher;
    tried = record {
      tagged = tagged-all (grammar_in t) (masks_in ms) (marked w) a i k (told_by e) l x.tagged;
      fits = x.fits;
      covers = λ c. covered-all a i at.high k l (x.covers c);
    };
  }

  -- the budget is out
  pub trying-out : {k : ℕ} {e : Ends} {at after : Meter} → Trying k e at → after ≡ at → DidTry t w ms ws a i m after (Err Out)
  trying-out x q =
      rw q (record { spent = x.spent; higher = x.higher; tried = tt })

  -- ---- one alternative more, from its first place f
  module _ {l : ℕ} {e : Ends} {at : Meter} (x : Trying l e at) {f : ℕ} (d : first (grammar_in t) a (suc l) ≡ some f) where
    -- how far it came is raised to where a walk came
    raised : {high q : ℕ} (j : ℕ) → high ≡ max at.high j → Walks (grammar_in t) (masks_in ms) (marked w) f i q j → Higher t w ms ws a i m.high high
    raised {high} j h v = record {
      up = let z = x.higher.up in omega arith;
      came = λ c y. rw h (came-max at.high j (x.higher.came c y) (walks-came (suc l) c d v));
    }

    covered : {high : ℕ} → at.high ≤ high
        → (Covered (grammar_in t) (masks_in ms) (marked w) (state_of t w ws).done m.high
        → CoveredFrom (grammar_in t) (masks_in ms) (marked w) (state_of t w ws).done high f i)
        → Covered (grammar_in t) (masks_in ms) (marked w) (state_of t w ws).done m.high
        → CoveredTo (grammar_in t) (masks_in ms) (marked w) (state_of t w ws).done high a i (suc l)
    covered {high} u y c = covered_next a i at.high high l u (λ f' d'. let z : f' ≡ f = cc in rw z (y c)) (x.covers c)

    -- its ends are those of its first place whose token may follow a
    ends_by : (n : ℕ) → filtered.EndsBy (grammar_in t) (masks_in ms) (marked w) a i (suc l) n
        ↔ (filtered.Ends (grammar_in t) (masks_in ms) (marked w) f i n × T ((masks_in ms).follows (token_at (marked w) n) a))
    ends_by n = turn-begin a i (suc l) f d n

    pub trying-nowhere : {k : ℕ} {j : ℕ} {after : Meter} → k ≡ suc l → EndsNowhere t w ms ws f i j → after.high ≡ max at.high j → after.left ≤ at.left
        → Trying k e after
    trying-nowhere {k} {j} {after} z y h s = record {
      fits = x.fits;
      tagged = rw z (tagged-skip (grammar_in t) (masks_in ms) (marked w) a i l (told_by e) (λ n u. y.none n ((ends_by n).0 u).0) x.tagged);
      spent = let u = x.spent in omega arith;
      higher = raised j h y.came.walks;
      covers = λ c. rw z (covered (omega arith) (λ _. y.cover after.high (omega arith)) c);
    }

    -- one end, which is added if its token may follow
    pub trying-one : {k j : ℕ} {after : Meter} {e' : Ends} → k ≡ suc l → EndsAt t w ms ws f i j → after.high ≡ max at.high j → after.left ≤ at.left
        → told_by e' ≡ cond ((masks_in ms).follows (token_at (marked w) j) a) (tags.add (told_by e) k j) (told_by e) → EndsFit e'
        → Trying k e' after
    trying-one {k} {j} {after} {e'} z y h s q fit = record {
      fits = fit;
      tagged = rw z (go ((masks_in ms).follows (token_at (marked w) j) a) refl);
      spent = let u = x.spent in omega arith;
      higher = raised j h y.came.walks;
      covers = λ c. rw z (covered (omega arith) (λ _. y.cover after.high (omega arith)) c);
    }
      where
        go : (v : Bool) → (masks_in ms).follows (token_at (marked w) j) a ≡ v → tags.TaggedTo (grammar_in t) (masks_in ms) (marked w) a i (suc l) (told_by e')
        go true v =
            let p : told_by e' ≡ tags.add (told_by e) (suc l) j = rw (v, z) at q in
            rw p (tagged-one (grammar_in t) (masks_in ms) (marked w) a i l (told_by e) j only x.tagged)
          where
            only : (n : ℕ) → filtered.EndsBy (grammar_in t) (masks_in ms) (marked w) a i (suc l) n ↔ (n ≡ j)
            only n = (
              λ u. (y.ends n).0 ((ends_by n).0 u).0,
              λ r. rw r ((ends_by j).1 ((y.ends j).1 refl, true→T ((masks_in ms).follows (token_at (marked w) j) a) v)),
            )
        go false v =
            let p : told_by e' ≡ told_by e = rw v at q in
            rw p (tagged-skip (grammar_in t) (masks_in ms) (marked w) a i l (told_by e) none x.tagged)
          where
            none : (n : ℕ) → ¬ filtered.EndsBy (grammar_in t) (masks_in ms) (marked w) a i (suc l) n
            none n u =
                let r = (ends_by n).0 u in
                let o : n ≡ j = (y.ends n).0 r.0 in
                false→¬T ((masks_in ms).follows (token_at (marked w) j) a) v (rw o at r.1)

    -- a pair that is not worked out
    pub trying-needs : {n : Pair} {after : Meter} → Lacks t w ms ws f i n.nonterminal n.position → after.left ≤ at.left → after.high ≡ at.high
        → DidTry t w ms ws a i m after (Err (Needs n))
    trying-needs y s q = record {
      spent = let u = x.spent in omega arith;
      higher = rw q x.higher;
      tried = record {
        pair = (y.named, y.came.within);
        undone = y.undone;
        called = λ c. walks-called (suc l) c d y.came.walks y.faces;
      };
    }

    -- ---- it goes on at place p from the several ends of pair (b, j)
    module _ {p b j : ℕ} (y : GoesOn t w ms ws f i p b j) {k : ℕ} {paid after : Meter} (z : k ≡ suc l) (s : paid.left ≤ at.left) (v : paid.high ≡ at.high)
        {r : Result Ends Halt} (done : Branched t w ms ws a k e p b j paid after r) where
      abbrev S : List ℕ
      S = set_of t w ws b j

      -- the ends of alternative o are those of place p from members whose token may follow a
      abbrev BySet : ℕ → Type 0
      BySet o = (n : ℕ) → filtered.EndsBy (grammar_in t) (masks_in ms) (marked w) a i o n
          ↔ (filtered.EndsFrom (grammar_in t) (masks_in ms) (marked w) (λ m. T (member S m)) p n × T ((masks_in ms).follows (token_at (marked w) n) a))

      -- what is walked to from a member is walked to
      walked : {q n : ℕ} → WalksTo t w ms ws p S q n → Walks (grammar_in t) (masks_in ms) (marked w) f i q n
      walked (o, h, v) = walks-on (on y.came.walks (filtered.call y.faces ((y.pair o).1 h))) (rw y.behind at v)

      far : (after.high ≡ at.high) ⊎ ((q : ℕ) × WalksTo t w ms ws p S q after.high) → Called (grammar_in t) (marked w) a i
          → Came (grammar_in t) (marked w) at.high → Came (grammar_in t) (marked w) after.high
      far (inl q) c h = rw q h
      far (inr (q, v)) c h = walks-came (suc l) c d (walked v)

      up : at.high ≤ after.high
      up = rw v at done.raised.up

      higher : Higher t w ms ws a i m.high after.high
      higher = record {
        up = let u = x.higher.up in let o = up in omega arith;
        came = λ c h. far (rw v at done.raised.came) c (x.higher.came c h);
      }

      spent : after.left ≤ m.left
      spent = let u = x.spent in let o = done.spent in omega arith

      branched : {o : Result Ends Halt} → r ≡ o → BranchedTo t w ms ws a k e p b j at.high o after.high
      branched q = rw v at (subst (λ (o : Result Ends Halt). BranchedTo t w ms ws a k e p b j paid.high o after.high) q done.branched)

      pub several-halts : {h : Halt} → r ≡ Err h → DidTry t w ms ws a i m after (Err h)
      several-halts {h} q = record { spent = spent; higher = higher; tried = go h (branched q) }
        where
          go : (h : Halt) → BranchedTo t w ms ws a k e p b j at.high (Err h) after.high → TriedAs t w ms ws a i m.high (Err h) after.high
          go (Needs n) u = record {
            pair = (u.named, u.within);
            undone = u.undone;
            called = λ h. walks-called (suc l) h d (walked u.walks) u.faces;
          }
          go Out u = tt

      pub several-known : {e' : Ends} → Ready t → r ≡ Ok e' → Trying k e' after
      several-known {e'} ready q = joined (branched q)
        where
          from-set : BySet (suc l)
          from-set n = (
            λ u. let v = (ends_by n).0 u in ((y.ends n).0 v.0, v.1),
            λ u. (ends_by n).1 ((y.ends n).1 u.0, u.1),
          )

          above : Covered (grammar_in t) (masks_in ms) (marked w) (state_of t w ws).done m.high
              → Covered (grammar_in t) (masks_in ms) (marked w) (state_of t w ws).done at.high
          above c b i o g u v = covered_more (λ _ _ h. h) x.higher.up (c b i o g u v)

          -- the pair has a production, which begins at j
          here-high : Covered (grammar_in t) (masks_in ms) (marked w) (state_of t w ws).done m.high → j ≤ at.high
          here-high c =
              let (g, h) = first-within t ready b y.named 1 (omega arith) (one-at-least t ready b y.named) in
              (above c b j 1 g y.done h).within g j here

          joined : JoinedEnds t w ms ws a k e p b j at.high after.high e' → Trying k e' after
          joined u = record {
            fits = u.fits;
            tagged = u.added i l z (subst BySet (sym z) from-set) x.tagged;
            spent = spent;
            higher = higher;
            covers = λ c. rw z (covered up (λ c.
                let low : (n : ℕ) → T (member S n) → n ≤ at.high = λ n h. ends-high b j n (above c) y.done ((y.pair n).1 h) in
                y.cover after.high (omega (arith, here-high c)) (λ n h. omega (arith, low n h)) (u.cover (above c) low)) c);
          }
