-- The loop that works pairs out: what holds between two trials, and what each way that a trial may end makes of it.
use mathlib.Core.Path.{◌≡◌, refl, sym, ap, ◌∙◌, subst}
use mathlib.Core.List.{List}
use Prim.Native.Nat.{ℕ, ◌+◌, ◌*◌, ◌-◌, ◌/◌, ◌%◌, ◌≤◌, ◌<◌}
use native.Mathlib.Numerals.{add-one}
use native.Mathlib.Nat.{mul-le-mul}
use native.Mathlib.Omega.{arith}
use native.Mathlib.Decide.{dec_lt}
use lib.ListN.{length, get_or, set, length-set}
use lib.Seq.{get_or-set_same, get_or-set_other}
use Rattle.std.specs.Prelude.{Result, Ok, Err}
use Rattle.grammar.specs.Limits.{max_nonterminals}
use Rattle.grammar.specs.inside.Tables.{grammar_in, nonterminals_in}
use Rattle.derivation.specs.Runs.{marked}
use Rattle.derivation.specs.Space.{max_tokens}
use Rattle.filtering.specs.inside.Cover.{Called}
use Rattle.filtering.specs.inside.Settling.{Stored}
use Rattle.filtering.proofs.WalkLaws.{covered_more}
use Rattle.filtering.proofs.SettleLaws.{stored-holds, stored-covered}
use Rattle.search.specs.inside.Words.{waits_at, pair_count, search_words, per_alternative, state_in, Kept}
use Rattle.search.specs.inside.Searching.{Given, Sized, Pair, Holds, MayAsk, state_of}
use Rattle.search.specs.inside.Trials.{told_by, EndsFit, FoundEnds, NeedsPair, TriedAs, DidTry, CameSoFar, Settled}
use Rattle.search.specs.inside.Places.{Small, Placed, Room, pair_in}
use Rattle.search.specs.declared.words.Size.{Size}
use Rattle.search.specs.declared.words.Pair as code
use Rattle.search.specs.declared.meter.Meter.{Meter}
use Rattle.search.specs.declared.meter.Exhausted.{Exhausted}
use Rattle.search.specs.declared.adding.Ends.{Ends}
use Rattle.search.specs.declared.walking.Halt.{Halt}
use Rattle.search.specs.declared.walking.Halt.TheVariants.{Needs}
use Rattle.search.proofs.ReplyLaws.{sizes-small, pair-asked}
use Rattle.search.proofs.WordLaws.{waits_end, waits-agree, holds_same, covered_same}

-- ---- bounds
-- the number of pairs, as the code works it out
pub room_small : {t w ms : List ℕ} (s : Size) → Given t w ms → Sized t w s → s.nonterminals * (s.n + 1) ≤ 4128
room_small s g z =
    let l : s.nonterminals ≤ max_nonterminals = omega (arith, z.names, g.ready.fits.few) in
    let k : s.n + 1 ≤ max_tokens + 1 = omega (arith, z.tokens, g.short) in
    let m : s.nonterminals * (s.n + 1) ≤ max_nonterminals * (max_tokens + 1) = mul-le-mul l k in omega arith

room-is : {t w : List ℕ} (s : Size) → Sized t w s → s.nonterminals * (s.n + 1) ≡ pair_count (nonterminals_in t) (length w)
room-is {t} {w} s z = rw (z.names, z.tokens, add-one (length w))

-- ---- the loop
-- the k-th pair that waits, as one number
abbrev wait_in : List ℕ → List ℕ → List ℕ → ℕ → ℕ
wait_in t w us k = get_or us (waits_at (nonterminals_in t) (length w) + k) 0

pub read-wait : {t w : List ℕ} (us : List ℕ) (s : Size) (k : ℕ) {p : code.Pair} → Sized t w s → p ≡ pair_in (get_or us (waits_at s.nonterminals s.n + k) 0)
    → p ≡ pair_in (wait_in t w us k)
read-wait us s k z e = rw (z.names, z.tokens) at e

-- something holds of the pair that a number says
abbrev OfPair : (ℕ → ℕ → Type 0) → ℕ → Type 0
OfPair P x = P (pair_in x).nonterminal (pair_in x).position

-- what is known of how far the search came, if the pair that was asked is called: so are all that were asked for it
pub record FarSo (t w ms us : List ℕ) (b j waiting high : ℕ) : Type 0 where
  pub sure : CameSoFar t w ms us high
  pub here : Called (grammar_in t) (marked w) b j
  pub waits : (k : ℕ) → k < waiting → OfPair (Called (grammar_in t) (marked w)) (wait_in t w us k)

module _ (t w ms ws : List ℕ) (a i : ℕ) (m : Meter) where
  -- pair (b, j) is to be tried for (a, i), which waits as the first if it is another one
  pub record Settling (us : List ℕ) (b j waiting : ℕ) (at : Meter) : Type 0 where
    pub kept : Kept (search_words (nonterminals_in t) (length w)) ws us
    pub holds : Holds t w ms us
    pub pair : Pair t w b j
    pub few : waiting ≤ pair_count (nonterminals_in t) (length w)
    pub waits : (k : ℕ) → k < waiting → OfPair (Pair t w) (wait_in t w us k)
    pub first : waiting ≡ 0 → (b ≡ a) × (j ≡ i)
    pub lowest : 0 < waiting → OfPair (λ b j. (b ≡ a) × (j ≡ i)) (wait_in t w us 0)
    pub spent : at.left ≤ m.left
    pub far : Called (grammar_in t) (marked w) a i → CameSoFar t w ms ws m.high → FarSo t w ms us b j waiting at.high

  pub settling-begins : Holds t w ms ws → Pair t w a i → Settling ws a i 0 m
  settling-begins h p = record {
    kept = record { long = refl; word = λ j l. refl };
    holds = h;
    pair = p;
    few = omega arith;
    waits = λ k l. absurd (omega arith);
    first = λ _. (refl, refl);
    lowest = λ l. absurd (omega arith);
    spent = omega arith;
    far = λ c s. record { sure = s; here = c; waits = λ k l. absurd (omega arith) };
  }

  module _ {us : List ℕ} {b j waiting : ℕ} {at : Meter} (x : Settling us b j waiting at) where
    pub settling-asks : {s : Size} → Given t w ms → search_words (nonterminals_in t) (length w) ≤ length ws → Sized t w s → MayAsk t w ms us s b j
    settling-asks g r z = record {
      searching = record { given = g; room = omega (arith, x.kept.long); holds = x.holds };
      sized = z;
      pair = x.pair;
    }

    -- there is room for one more
    pub room-left : {s : Size} → Sized t w s → ¬ (waiting ≡ s.nonterminals * (s.n + 1)) → waiting < pair_count (nonterminals_in t) (length w)
    room-left {s} z n = go (dec_lt waiting (pair_count (nonterminals_in t) (length w)))
      where
        go : Dec (waiting < pair_count (nonterminals_in t) (length w)) → waiting < pair_count (nonterminals_in t) (length w)
        go (yes l) = l
        go (no l) = let u = x.few in let v : waiting ≡ pair_count (nonterminals_in t) (length w) = omega arith in absurd (n (v ∙ sym (room-is s z)))

    pub waiting-small : {s : Size} → Given t w ms → Sized t w s → waiting ≤ 4128
    waiting-small {s} g z = omega (arith, x.few, room-is s z, room_small s g z)

    -- words of a pair that waits may be read
    pub may-wait : {s : Size} {k : ℕ} (us' : List ℕ) → Given t w ms → search_words (nonterminals_in t) (length w) ≤ length ws → Sized t w s → k < waiting
        → length us' ≡ length us → Small s × Room s us' × (k < pair_count s.nonterminals s.n)
    may-wait {s} us' g h z l e = (sizes-small g z, rw (z.names, z.tokens) (omega (arith, e, x.kept.long)), rw (z.names, z.tokens) (omega (arith, x.few)))

    -- and written
    pub may-put : {s : Size} → Given t w ms → search_words (nonterminals_in t) (length w) ≤ length ws → Sized t w s
        → ¬ (waiting ≡ s.nonterminals * (s.n + 1))
        → Placed s (record { nonterminal = b; position = j }) us × (waiting < pair_count s.nonterminals s.n)
    may-put {s} g h z n = let more = room-left z n in (pair-asked (settling-asks g h z), rw (z.names, z.tokens) more)

    module _ {after : Meter} {r : Result Ends Halt} (did : DidTry t w ms us b j at after r) where
      as-tried : {v : Result Ends Halt} → r ≡ v → TriedAs t w ms us b j at.high v after.high
      as-tried q = subst (λ (v : Result Ends Halt). TriedAs t w ms us b j at.high v after.high) q did.tried

      pub trial-fits : {e : Ends} → r ≡ Ok e → EndsFit e
      trial-fits {e} q = let f : FoundEnds t w ms us b j at.high after.high e = as-tried q in f.fits

      -- how far it came, by the trial
      came : FarSo t w ms us b j waiting at.high → CameSoFar t w ms us after.high
      came f = record {
        cover = λ c k o g d e. covered_more (λ _ _ h. h) did.higher.up (f.sure.cover c k o g d e);
        came = did.higher.came f.here f.sure.came;
      }

      -- the budget is out
      pub settled-out : {last : Meter} {z : Exhausted} → last.left ≤ after.left → last.high ≡ after.high → Settled t w ms ws us a i m last (Err z)
      settled-out l h = record {
        kept = x.kept;
        holds = x.holds;
        spent = let u = x.spent in let v = did.spent in omega arith;
        done = tt;
        far = λ c s. rw h (came (x.far c s));
      }

      -- ---- the pair's ends are known and stored
      module _ {ends : Ends} (q : r ≡ Ok ends) {s : Size} (z : Sized t w s) {us' : List ℕ} (k : Kept (waits_at s.nonterminals s.n) us us')
          (st : Stored (state_in s.nonterminals s.n us) b j (told_by ends) (state_in s.nonterminals s.n us')) where
        found : FoundEnds t w ms us b j at.high after.high ends
        found = as-tried q

        keeps : Kept (waits_at (nonterminals_in t) (length w)) us us'
        keeps = rw (z.names, z.tokens) at k

        stored : Stored (state_of t w us) b j (told_by ends) (state_of t w us')
        stored = rw (z.names, z.tokens) at st

        kept : Kept (search_words (nonterminals_in t) (length w)) ws us'
        kept = record {
          long = keeps.long ∙ x.kept.long;
          word = λ o l. keeps.word o (omega (arith, waits_end (nonterminals_in t) (length w))) ∙ x.kept.word o l;
        }

        holds : Holds t w ms us'
        holds = stored-holds b j stored x.holds found.tagged

        sure : FarSo t w ms us b j waiting at.high → CameSoFar t w ms us' after.high
        sure f = record {
          cover = stored-covered b j stored did.higher.up f.sure.cover (found.covers f.sure.cover);
          came = did.higher.came f.here f.sure.came;
        }

        same : (o : ℕ) → wait_in t w us' o ≡ wait_in t w us o
        same o = keeps.word (waits_at (nonterminals_in t) (length w) + o) (omega arith)

        -- no other pair waits
        pub settled-all : waiting ≡ 0 → {last : Meter} → last.left ≤ after.left → last.high ≡ after.high → Settled t w ms ws us' a i m last (Ok tt)
        settled-all e l y = record {
          kept = kept;
          holds = holds;
          spent = let u = x.spent in let v = did.spent in omega arith;
          done = let f = x.first e in rw (← f.0, ← f.1) stored.has;
          far = λ c h. rw y (sure (x.far c h));
        }

        -- the last one that waits is tried again
        pub settling-back : 0 < waiting → {p : code.Pair} {last : Meter} → p ≡ pair_in (wait_in t w us' (waiting - 1)) → last.left ≤ after.left
            → last.high ≡ after.high → Settling us' p.nonterminal p.position (waiting - 1) last
        settling-back l {p} e n y = record {
          kept = kept;
          holds = holds;
          pair = rw (e, same (waiting - 1)) (x.waits (waiting - 1) (omega arith));
          few = let u = x.few in omega arith;
          waits = λ o h. rw (same o) (x.waits o (omega arith));
          first = λ h. let u : waiting - 1 ≡ 0 = h in rw (e, u, same 0) (x.lowest l);
          lowest = λ h. rw (same 0) (x.lowest l);
          spent = let u = x.spent in let v = did.spent in omega arith;
          far = λ c h. let f = x.far c h in record {
            sure = rw y (sure f);
            here = rw (e, same (waiting - 1)) (f.waits (waiting - 1) (omega arith));
            waits = λ o h. rw (same o) (f.waits o (omega arith));
          };
        }

      -- ---- another pair is needed first: this one waits
      module _ {need : code.Pair} (q : r ≡ Err (Needs need)) {s : Size} (z : Sized t w s) (small : nonterminals_in t ≤ per_alternative)
          (roomy : search_words (nonterminals_in t) (length w) ≤ length ws) (more : waiting < pair_count (nonterminals_in t) (length w)) {us' : List ℕ}
          (e : us' ≡ set us (waits_at s.nonterminals s.n + waiting) (j * per_alternative + b)) where
        needs : NeedsPair t w ms us b j need.nonterminal need.position
        needs = as-tried q

        abbrev N : ℕ
        N = nonterminals_in t

        abbrev here : ℕ
        here = waits_at N (length w) + waiting

        put : us' ≡ set us here (j * per_alternative + b)
        put = rw (z.names, z.tokens) at e

        inside : here < search_words N (length w)
        inside = omega arith

        other : (o : ℕ) → ¬ (o ≡ here) → get_or us' o 0 ≡ get_or us o 0
        other o d = rw put (get_or-set_other us here o (j * per_alternative + b) 0 d)

        last : wait_in t w us' waiting ≡ j * per_alternative + b
        last = rw put (get_or-set_same us here (j * per_alternative + b) 0 (omega (arith, inside, x.kept.long)))

        -- what holds of those that waited and of this one holds of all that wait
        all : (P : ℕ → ℕ → Type 0) → P b j → ((o : ℕ) → o < waiting → OfPair P (wait_in t w us o)) → (o : ℕ) → o < waiting + 1 → OfPair P (wait_in t w us' o)
        all P p h o l = go (dec_lt o waiting)
          where
            go : Dec (o < waiting) → OfPair P (wait_in t w us' o)
            go (yes d) = rw (other (waits_at N (length w) + o) (λ u. omega arith)) (h o d)
            go (no d) =
                let u : o ≡ waiting = omega arith in
                let v = x.pair.0 in
                let y : (j * per_alternative + b) % per_alternative ≡ b = omega arith in
                let y' : (j * per_alternative + b) / per_alternative ≡ j = omega arith in
                rw (u, last, y, y') p

        kept_on : Kept (search_words N (length w)) ws us'
        kept_on = record {
          long = ap length put ∙ (length-set us here (j * per_alternative + b) ∙ x.kept.long);
          word = λ o l. other o (λ u. let v = inside in omega arith) ∙ x.kept.word o l;
        }

        lowest-on : Dec (0 < waiting) → OfPair (λ b j. (b ≡ a) × (j ≡ i)) (wait_in t w us' 0)
        lowest-on (yes l) = rw (other (waits_at N (length w) + 0) (λ u. omega arith)) (x.lowest l)
        lowest-on (no l) = all (λ b j. (b ≡ a) × (j ≡ i)) (x.first (omega arith)) (λ o h. absurd (omega arith)) 0 (omega arith)

        pub settling-on : {last : Meter} → last.left ≤ after.left → last.high ≡ after.high
            → Settling us' need.nonterminal need.position (waiting + 1) last
        settling-on l y = record {
          kept = kept_on;
          holds = rw put (holds_same t w ms (waits-agree N (length w) waiting (j * per_alternative + b) us) x.holds);
          pair = needs.pair;
          few = omega arith;
          waits = all (Pair t w) x.pair x.waits;
          first = λ h. absurd (omega arith);
          lowest = λ h. lowest-on (dec_lt 0 waiting);
          spent = let u = x.spent in let v = did.spent in omega arith;
          far = λ c h. let f = x.far c h in record {
            sure = rw y (record {
              cover = rw put (covered_same t w ms (waits-agree N (length w) waiting (j * per_alternative + b) us) (came f).cover);
              came = (came f).came;
            });
            here = needs.called f.here;
            waits = all (Called (grammar_in t) (marked w)) f.here f.waits;
          };
        }
