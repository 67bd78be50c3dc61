-- What the code takes where a nonterminal waits is what the quick reading's chooser names, and it leaves the frames as that is entered.
use mathlib.Core.Path.{◌≡◌, refl, sym, ap, ◌∙◌}
use mathlib.Core.Option.{some}
use mathlib.Core.List.{List}
use Prim.Native.Nat.{ℕ, ◌+◌, ◌*◌, ◌≤◌, ◌<◌, min}
use native.Mathlib.Omega.{arith}
use lib.ListN.{length, drop, set}
use borrow.Author.Tests.{lt-ltb, le-ltb}
use Rattle.grammar.specs.Grammar.{Grammar, alternatives}
use Rattle.grammar.specs.inside.Tables.{grammar_in}
use Rattle.derivation.specs.Runs.{marked}
use Rattle.derivation.specs.Machine.{Choice, choice, lowest}
use Rattle.derivation.specs.inside.Frames.{frame_words}
use Rattle.derivation.proofs.CountLaws.{first-within}
use Rattle.std.specs.Prelude.{Some, None}
use Rattle.cache.specs.Predictor.{Forecast, Predicted, predicted}
use Rattle.cache.specs.inside.Calls.{Predictable}
use Rattle.cache.specs.Predict.{predict}
use Rattle.cache.proofs.ForecastLaws.{predict-named, predict-length}
use Rattle.adaptive.specs.Chooser.{settle}
use Rattle.adaptive.proofs.ChoiceLaws.{choice-decided, choice-single}
use Rattle.machine.specs.inside.Space.{Named, opened}
use Rattle.machine.specs.declared.steps.At.{At}
use Rattle.machine.specs.declared.steps.Space.{Space}
use Rattle.machine.proofs.AlternativeLaws.{some_of, none_of, named-of}
use Rattle.machine.proofs.WaitLaws.{waits-position}
use Rattle.words.specs.Layout.{min_words}
use Rattle.choosing.specs.inside.Deciding.{Deciding, choice_at, Chose}
use Rattle.serving.specs.inside.Aids.{MayServe, Far, ServedFar}
use Rattle.serving.specs.inside.Running.{Picked}
use Rattle.serving.proofs.WaitingLaws.{named_some}
use Rattle.choosing.proofs.DecideStage.{serve-named, serve-one, pushed-stage, pushed-far, pushed-entering}

-- ---- the definition, by what a prediction said
module _ (g : Grammar) (w S : List ℕ) (a i : ℕ) {p : Predicted (List ℕ)} {x : Forecast} {c : List ℕ} (e : predicted x c ≡ p) where
  settle-named : {b : ℕ} → x ≡ Some b → settle g w S a i p ≡ choice (some b) c
  unfolding settle
  settle-named q = rw (← e, q)

  settle-full : x ≡ None → settle g w S a i p ≡ choice (lowest g w S a i) c
  unfolding settle
  settle-full q = rw (← e, q)

module _ (t w ms tally ws : List ℕ) {s : Space} {known : ℕ} {at : At} {a : ℕ} (x : MayServe t w ms tally ws s known at a) where
  abbrev d : ℕ
  d = at.depth

  abbrev q : ℕ
  q = at.place

  abbrev i : ℕ
  i = at.position

  -- ---- an alternative is taken without a set or a mark
  module _ {after : List ℕ} (put : after ≡ set ws (s.base + frame_words * at.depth) at.place) {known' : ℕ} (fewer : known' ≡ min known at.depth) where
    taken : (c : List ℕ) {c' : List ℕ} (b : ℕ) → Named t a b → length c' ≡ length c → choice_at t w ws c d q a i ≡ choice (some b) c'
        → Chose t w ms tally ws ms tally after c c' d q a i known' b
    taken c b named long e =
        record {
          nothing = λ n. absurd (named_some t a named.1 n);
          taken = λ _. ap (λ (o : Choice (List ℕ)). o.alternative) e;
          named = λ _. named;
          words = sym (ap (λ (o : Choice (List ℕ)). o.state) e);
          long = long;
          tallied = x.told.tallied;
          stage = pushed-stage t w ms tally ws x put fewer;
          far = pushed-far t w ms tally ws x put fewer;
          entering = pushed-entering t w ms tally ws x put fewer b;
        }

    -- a single production
    pub decide-single : (c : List ℕ) {n : ℕ} → n ≡ length (alternatives (grammar_in t) a) → n < 2
        → Chose t w ms tally ws ms tally after c c at.depth at.place a at.position known' 1
    decide-single c m l =
        taken c 1 (serve-one t w ms tally ws x) refl
        (choice-single (grammar_in t) (marked w) (predict (grammar_in t)) c (opened t w ws d q) a i
        (le-ltb 1 (length (alternatives (grammar_in t) a)) (omega arith)))

    -- the predicted alternative
    pub decide-named : (c : List ℕ) {n : ℕ} → n ≡ length (alternatives (grammar_in t) a) → 2 ≤ n → {o : Forecast} {c' : List ℕ} {b : ℕ}
        → predicted o c' ≡ predict (grammar_in t) c a (drop at.position (marked w)) → o ≡ Some b
        → ¬ (b ≡ 0) × Chose t w ms tally ws ms tally after c c' at.depth at.place a at.position known' b
    decide-named c m l {o} {c'} {b} e f =
        let (j, k) = predict-named (grammar_in t) c a (drop i (marked w)) b (sym (ap (λ (p : Predicted (List ℕ)). p.forecast) e) ∙ f) in
        let named = first-within t x.told.ready a (serve-named t w ms tally ws x) b j k in (
          λ z. named_some t a named.1 z,
          taken c b named (ap (λ (p : Predicted (List ℕ)). length p.state) e ∙ predict-length (grammar_in t) c a (drop i (marked w)))
              (choice-decided (grammar_in t) (marked w) (predict (grammar_in t)) c (opened t w ws d q) a i
              (lt-ltb 1 (length (alternatives (grammar_in t) a)) (omega arith))
              ∙ settle-named (grammar_in t) (marked w) (opened t w ws d q) a i e f),
        )

  -- ---- FULL: the lowest alternative that serves was asked
  pub decide-full : {ms' tally' after : List ℕ} (c : List ℕ) {n : ℕ} → n ≡ length (alternatives (grammar_in t) a) → 2 ≤ n
      → {o : Forecast} {c' : List ℕ} {known' r : ℕ}
      → predicted o c' ≡ predict (grammar_in t) c a (drop at.position (marked w)) → o ≡ None
      → ServedFar t w ms tally ws ms' tally' after at.depth at.place a at.position known' r
      → Chose t w ms tally ws ms' tally' after c c' at.depth at.place a at.position known' r
  decide-full c m l {o} {c'} {known'} {r} e f y =
      record {
        nothing = λ z. ap (λ (o : Choice (List ℕ)). o.alternative) is ∙ none_of t w (opened t w ws d q) a i y.served.chosen z;
        taken = λ z. ap (λ (o : Choice (List ℕ)). o.alternative) is
            ∙ some_of (lowest (grammar_in t) (marked w) (opened t w ws d q) a i) y.served.chosen z;
        named = named-of t w (opened t w ws d q) a i y.served.chosen;
        words = sym (ap (λ (o : Choice (List ℕ)). o.state) is);
        long = ap (λ (p : Predicted (List ℕ)). length p.state) e ∙ predict-length (grammar_in t) c a (drop i (marked w));
        tallied = y.served.tallied;
        stage = y.served.stage;
        far = y.far;
        entering = y.served.entering;
      }
    where
      is : choice_at t w ws c d q a i ≡ choice (lowest (grammar_in t) (marked w) (opened t w ws d q) a i) c'
      is =
          choice-decided (grammar_in t) (marked w) (predict (grammar_in t)) c (opened t w ws d q) a i
          (lt-ltb 1 (length (alternatives (grammar_in t) a)) (omega arith))
          ∙ settle-full (grammar_in t) (marked w) (opened t w ws d q) a i e f

-- it can be predicted
pub deciding-predicts : (t w ms tally c ws : List ℕ) {s : Space} {known : ℕ} {at : At} {a : ℕ} → Deciding t w ms tally c ws s known at a
    → Predictable t w c a at.position
deciding-predicts t w ms tally c ws x =
    record {
      ready = x.serve.told.ready;
      long = x.long;
      names = serve-named t w ms tally ws x.serve;
      within = waits-position t x.serve.told.ready w x.serve.waits;
      known = x.serve.told.tokens;
    }

-- ---- as the loop of a reading asks it
pub picked-chosen : (t w : List ℕ) {ms tally ws ms' tally' after c c' : List ℕ} {d q a i known' r : ℕ} → min_words ≤ length c → Far t w ms tally ws
    → Chose t w ms tally ws ms' tally' after c c' d q a i known' r
    → Picked t w (choice_at t w ws c d q a i) c' (Far t w ms' tally' after × (min_words ≤ length c')) (λ d' q' a' i'. Unit {0})
    ws ms' tally' after d q a i known' r
picked-chosen t w long far y =
    record {
      nothing = y.nothing;
      taken = y.taken;
      named = y.named;
      state = y.words;
      kept = (y.far far, omega (arith, y.long));
      again = λ f d' q' a' i' n e m. tt;
      tallied = y.tallied;
      stage = y.stage;
      entering = y.entering;
    }
