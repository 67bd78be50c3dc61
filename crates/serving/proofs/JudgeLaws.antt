-- The note as a whole, by ends on demand: the start symbol is asked from the note's beginning on, and what is known of it then tells.
use mathlib.Core.Path.{◌≡◌, refl, sym, ap, ◌∙◌}
use mathlib.Core.Logic.{inl}
use mathlib.Core.Bool.{Bool, true, false}
use mathlib.Core.List.{List}
use Prim.Native.Nat.{ℕ, suc, ◌+◌, ◌-◌, ◌≤◌, ◌<◌, min}
use native.Mathlib.Omega.{arith}
use lib.Dec.{T, eqb}
use Rattle.std.specs.Prelude.{Result}
use lib.ListN.{length}
use Rattle.base.proofs.Booleans.{clash}
use Rattle.grammar.specs.Grammar.{Grammar}
use Rattle.grammar.specs.inside.Tables.{grammar_in}
use Rattle.positions.specs.inside.Positions.{member}
use Rattle.positions.specs.inside.Words.{set_at}
use Rattle.derivation.specs.Plain.{sentence?}
use Rattle.derivation.specs.ReachRounds.{wrong_place}
use Rattle.derivation.specs.Space.{max_tokens}
use Rattle.derivation.specs.inside.Ready.{Ready}
use Rattle.derivation.proofs.CountLaws.{one-at-least, first-within}
use Rattle.derivation.proofs.ReadyLaws.{ready-ordered}
use Rattle.first_follow.specs.inside.Masks.{Masks}
use Rattle.filtering.specs.inside.Cover.{Asked, begins}
use Rattle.filtering.specs.inside.Known as known
use Rattle.filtering.proofs.KnownLaws.{known-right}
use Rattle.filtering.proofs.SentenceLaws.{sentence-told}
use Rattle.filtering.proofs.WrongLaws.{place-right}
use Rattle.machine.proofs.WaitLaws.{some-named}
use Rattle.search.specs.inside.Words.{pair_set}
use Rattle.search.specs.inside.Places.{Placed}
use Rattle.search.specs.inside.Searching.{Searching, Sized, Roomy, MayAsk, KnownIs, state_of, set_of, reply_in}
use Rattle.search.specs.inside.Trials.{CameSoFar, Settled}
use Rattle.search.specs.declared.words.Size.{Size}
use Rattle.search.specs.declared.meter.Meter.{Meter}
use Rattle.search.specs.declared.meter.Exhausted.{Exhausted}
use Rattle.search.specs.declared.replies.Reply.{Reply}
use Rattle.search.specs.declared.replies.Reply.TheVariants.{Unknown, Nowhere, Only, Several}
use Rattle.serving.specs.inside.Aids.{budget_in, high_in, tally_of, Fits, Stage, Begun}
use Rattle.serving.specs.inside.Judging.{MayJudge, MayStart, Started, JudgedAs, Judges, tells_end}
use Rattle.serving.specs.declared.judging.Judged.{Judged}
use Rattle.serving.specs.declared.judging.Judged.TheVariants.{Sentence, Wrong, Out}
use Rattle.serving.proofs.StageLaws.{came-kept}

-- ---- a pair that was asked
asked-known : {g : Grammar} {M : Masks} {w : List ℕ} {done : ℕ → ℕ → Bool} {a i : ℕ} {r : known.Reply} → known.Replied g M w done a i r
    → ¬ (r ≡ known.unknown) → Asked M w done a i
asked-known (known.Replied.asks d t) n = absurd (n refl)
asked-known (known.Replied.none x h) n = x
asked-known (known.Replied.one x h) n = x
asked-known (known.Replied.some x h) n = x

reply-told : (s : List ℕ) (r : Reply) → ¬ (r ≡ Unknown) → ¬ (reply_in s r ≡ known.unknown)
reply-told s Unknown n e = n refl
reply-told s Nowhere n e = clash (cc)
reply-told s (Only m) n e = clash (cc)
reply-told s Several n e = clash (cc)

-- replies that tell something
module _ {r : Reply} where
  pub none-tells : r ≡ Nowhere → ¬ (r ≡ Unknown)
  none-tells q e = clash (cc)

  pub one-tells : {m : ℕ} → r ≡ Only m → ¬ (r ≡ Unknown)
  one-tells q e = clash (cc)

  pub some-tells : r ≡ Several → ¬ (r ≡ Unknown)
  some-tells q e = clash (cc)

-- ---- the start symbol is asked
pub start-asks : {t w ms ws : List ℕ} {s : Size} → Searching t w ms ws → Sized t w s → MayAsk t w ms ws s 0 0
start-asks {t} x z = record { searching = x; sized = z; pair = (some-named t x.given.ready, omega arith) }

module _ {t w ms tally ws : List ℕ} {s : Size} (x : MayStart t w ms tally ws s) where
  -- it was before
  pub started-before : {r : Reply} → KnownIs t w ms ws 0 0 r → ¬ (r ≡ Unknown) → Started t w ms tally ws tally ws
  started-before {r} e n =
      let g = x.searching.given in
      let k = known-right (ready-ordered t g.ready) g.closed (state_of t w ws) x.searching.holds 0 0 (omega arith) in
      let b = x.budget in
      record {
        tallied = x.tallied;
        begun = λ z. omega arith;
        long = refl;
        searching = x.searching;
        asked = λ _. asked-known k (λ q. reply-told (set_of t w ws 0 0) r n (e ∙ q));
        far = λ _. x.far;
      }

  -- it is now, or the budget is out
  pub started-now : {m r last : Meter} {z : Result (Unit {0}) Exhausted} {after tally' : List ℕ} → (m.left ≡ budget_in tally - 1) × (m.high ≡ high_in tally)
      → Settled t w ms ws after 0 0 m r z → last.left ≤ r.left → last.high ≡ r.high → (0 < last.left → T ((state_of t w after).done 0 0))
      → tally' ≡ tally_of (suc last.left) (min last.high (length w + 1)) → Started t w ms tally ws tally' after
  started-now {m} {r} {last} {z} {after} {tally'} q y fewer same done e = rw (e, came-kept w far.came) whole
    where
      far : CameSoFar t w ms after last.high
      far = rw same (y.far begins (rw q.1 x.far))

      whole : Started t w ms tally ws (tally_of (suc last.left) last.high) after
      whole = record {
        tallied = record { long = refl; few = omega (arith, x.budget, x.tallied.few, y.spent, q.0) };
        begun = λ z. omega arith;
        long = y.kept.long;
        searching = record { given = x.searching.given; room = omega (arith, x.searching.room, y.kept.long); holds = y.holds };
        asked = λ l. inl (done (omega arith));
        far = λ _. far;
      }

-- ---- whether the note's end is among the ends of a reply
-- the set of the start symbol's ends may be read
pub start-set : {t w : List ℕ} (ws : List ℕ) {s : Size} → Ready t → Sized t w s → Roomy t w ws → length w ≤ max_tokens
    → Placed s (record { nonterminal = 0; position = 0 }) ws
start-set {t} ws h z r l = record {
  pair = record {
    small = record { names = rw z.names h.fits.few; tokens = rw z.tokens l };
    nonterminal = rw z.names (some-named t h);
    position = omega arith;
  };
  room = rw (z.names, z.tokens) r;
}

module _ {t w : List ℕ} (ws : List ℕ) {s : Size} (z : Sized t w s) {r : Reply} where
  pub only-ends : {m : ℕ} → r ≡ Only m → eqb s.n m ≡ tells_end t w ws r
  only-ends e = rw (e, z.tokens)

  pub several-end : {b : Bool} {x : List ℕ} → r ≡ Several → x ≡ set_at ws (pair_set s.nonterminals s.n 0 0) → b ≡ member x s.n
      → b ≡ tells_end t w ws r
  several-end {b} {x} e q h =
      let q' : x ≡ set_of t w ws 0 0 = rw (z.names, z.tokens) at q in
      let h' : b ≡ member x (length w) = rw z.tokens at h in
      rw e (h' ∙ ap (λ (y : List ℕ). member y (length w)) q')

-- ---- the answer
module _ {t w ms tally ws ms' tally₁ ws₁ : List ℕ} {k : ℕ} (x : MayJudge t w ms tally ws k) (b : Begun t w ms tally ws ms' tally₁ ws₁) where
  -- a search with budget: it has begun now, or is what it was
  search-begun : 1 < budget_in tally₁ → Fits t × Searching t w ms' ws₁ × CameSoFar t w ms' ws₁ (high_in tally₁)
  search-begun l = go x.stage
    where
      same : ¬ (budget_in tally ≡ 0) → budget_in tally₁ ≡ budget_in tally
      same n = ap budget_in (b.same n).1

      go : Stage t w ms tally ws k → Fits t × Searching t w ms' ws₁ × CameSoFar t w ms' ws₁ (high_in tally₁)
      go (Stage.nothing e q o) = b.fresh e l
      go (Stage.search h f y m) = let q = b.same (λ e. omega arith) in rw (q.0, q.1, q.2) (f, y, x.far h)
      go (Stage.table e h) = let q = same (λ z. omega arith) in absurd (omega arith)

  pub may-start : {s : Size} → 1 < budget_in tally₁ → Sized t w s → MayStart t w ms' tally₁ ws₁ s
  may-start l z = let y = search-begun l in record { searching = y.1; sized = z; tallied = b.tallied; budget = l; far = y.2 }

  -- the budget is out, or was
  pub judged-out : budget_in tally₁ < 2 → Judges t w ms tally ws ms' tally₁ ws₁ Out
  judged-out l =
      let n = b.begun in
      let one : budget_in tally₁ ≡ 1 = omega arith in
      record {
        answer = one;
        tallied = b.tallied;
        begun = n;
        stage = Stage.table one (λ m. absurd (omega arith));
        long = b.long;
        same = λ e. (b.same (λ z. omega arith)).2;
      }

  module _ (l : 1 < budget_in tally₁) {tally₂ ws₂ : List ℕ} (y : Started t w ms' tally₁ ws₁ tally₂ ws₂) where
    -- there are no cells that were there
    searched : budget_in tally ≡ 1 → ws₂ ≡ ws
    searched e = let q = ap budget_in (b.same (λ z. omega arith)).1 in absurd (omega arith)

    -- the budget ran out
    pub judged-later : budget_in tally₂ < 2 → Judges t w ms tally ws ms' tally₂ ws₂ Out
    judged-later m =
        let n = y.begun in
        let one : budget_in tally₂ ≡ 1 = omega arith in
        record {
          answer = one;
          tallied = y.tallied;
          begun = n;
          stage = Stage.table one (λ m. absurd (omega arith));
          long = y.long ∙ b.long;
          same = searched;
        }

    module _ (m : 1 < budget_in tally₂) where
      judged : {v : Judged} → JudgedAs t w tally₂ v → Judges t w ms tally ws ms' tally₂ ws₂ v
      judged a = record {
        answer = a;
        tallied = y.tallied;
        begun = y.begun;
        stage = Stage.search m (search-begun l).0 y.searching (λ k h. absurd (omega arith));
        long = y.long ∙ b.long;
        same = searched;
      }

      wrong : wrong_place (grammar_in t) w ≡ min (high_in tally₂) (length w)
      wrong =
          let g = y.searching.given in
          let far = y.far m in
          let named = some-named t g.ready in
          let one = first-within t g.ready 0 named 1 (omega arith) (one-at-least t g.ready 0 named) in
          place-right w (ready-ordered t g.ready) g.closed (state_of t w ws₂).done (high_in tally₂) far.cover (y.asked m) far.came 1 one.1

      told : (r : Reply) → KnownIs t w ms' ws₂ 0 0 r → tells_end t w ws₂ r ≡ sentence? (grammar_in t) w
      told r e =
          let g = y.searching.given in
          ap (λ (v : known.Reply). known.tells v (length w)) e
          ∙ sentence-told (ready-ordered t g.ready) g.closed w (state_of t w ws₂) y.searching.holds (y.asked m)

      module _ (r : Reply) {v : Bool} {high place : ℕ} (e : KnownIs t w ms' ws₂ 0 0 r) (q : v ≡ tells_end t w ws₂ r) (h : high ≡ high_in tally₂)
          (p : place ≡ min high (length w)) where
        place_is : place ≡ wrong_place (grammar_in t) w
        place_is = p ∙ (ap (λ (o : ℕ). min o (length w)) h ∙ sym wrong)

        pub judged-sentence : v ≡ true → Judges t w ms tally ws ms' tally₂ ws₂ (Sentence place)
        judged-sentence o = judged (sym (told r e) ∙ (sym q ∙ o), place_is, m)

        pub judged-wrong : v ≡ false → Judges t w ms tally ws ms' tally₂ ws₂ (Wrong place)
        judged-wrong o = judged (sym (told r e) ∙ (sym q ∙ o), place_is)
