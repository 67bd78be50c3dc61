-- The worklist answers exactly what the moves reach, and none exactly if that is over a limit; so its order cannot matter.
use mathlib.Core.Path.{◌≡◌, refl, sym, subst, ◌∙◌}
use mathlib.Core.Logic.{◌↔◌}
use mathlib.Core.Option.{Option, none, some}
use mathlib.Core.List.Memᴰ
use mathlib.Core.List.{List, []}
use Prim.Native.Nat.{ℕ, zero, suc, ◌+◌, ◌≤◌, ◌<◌}
use native.Mathlib.Omega.{arith}
use native.Mathlib.Decide.{dec_lt}
use lib.ListN.{length, get_elem?}
use Rattle.base.proofs.Booleans.{clash}
use Rattle.base.proofs.Lists.{get-below, get-behind, get-front}
use Rattle.grammar.specs.Grammar.{Grammar}
use Rattle.lookahead.specs.Configs.{Config, In, Closes, from, move, moves}
use Rattle.lookahead.specs.Closing.{max_members, max_entries, add_all, close_from, close}
use Rattle.base.specs.Lists.{Distinct, nil}
use Rattle.lookahead.specs.Rules.{Each, Over, deep, many}
use Rattle.lookahead.proofs.ListLaws.{Sub, get_in, in-get, distinct-short}
use Rattle.lookahead.proofs.MoveLaws.{moves-right}
use Rattle.lookahead.proofs.AddLaws.{Work, Grown, Adds, stopped, went, grown-sub, add_all-right}

-- a list of configurations is the closure of some others: no member twice, within the limits, and exactly what the moves reach
pub record Closure (g : Grammar) (start ms : List Config) : Type 0 where
  pub distinct : Distinct ms
  pub few : length ms ≤ max_members
  pub small : Each (λ (c : Config). length c.stack ≤ max_entries) ms
  pub exact : (c : Config) → In c ms ↔ Closes g start c

-- what closing answers
pub data Closed (g : Grammar) (start : List Config) : Option (List Config) → Type 0 where
  over : Over g start → Closed g start none
  whole : {ms : List Config} → Closure g start ms → Closed g start (some ms)

module _ (g : Grammar) (start : List Config) where
  -- the moves of the first k members are members
  abbrev Done : ℕ → List Config → Type 0
  Done k ms = (i : ℕ) (c : Config) → i < k → get_elem? ms i ≡ some c → Sub (moves g c) ms

  -- a closed list that holds the start holds all that is reached
  all-reached : {ms : List Config} → ((c : Config) → In c ms → Sub (moves g c) ms) → Sub start ms → {c : Config} → Closes g start c → In c ms
  all-reached h s (from {c = c} m) = s c m
  all-reached h s (move {c = c} {d = d} r m) = h c (all-reached h s r) d ((moves-right g c d).1 m)

  finished : (k : ℕ) (ms : List Config) → Work g start ms → Done k ms → Sub start ms → length ms ≤ k → Closed g start (some ms)
  finished k ms w h s l = whole (record {
    distinct = w.distinct;
    few = w.few;
    small = w.small;
    exact = λ c. (
      λ m. w.reached c m,
      λ r. all-reached (λ d m. let t = in-get m in h t.0 d (let b = get-below ms t.0 t.1 in omega arith) t.1) s r,
    );
  })

  done_on : (k : ℕ) {c : Config} {ms ms' : List Config} → get_elem? ms k ≡ some c → Done k ms → Grown g start ms (moves g c) ms'
      → Done (suc k) ms'
  done_on k {c} {ms} {ms'} e h w i d l q = go (dec_lt i k)
    where
      before : i < length ms → get_elem? ms i ≡ some d
      before b = sym (get-front ms w.others i b) ∙ subst (λ (x : List Config). get_elem? x i ≡ some d) w.grown q

      go : Dec (i < k) → Sub (moves g d) ms'
      go (yes y) = λ x m. grown-sub g start w x (h i d y (before (let b = get-below ms k e in omega arith)) x m)
      go (no n) =
          let z : i ≡ k = omega arith in
          let f : get_elem? ms k ≡ some d = rw z at (before (let b = get-below ms k e in omega arith)) in
          let y : c ≡ d = cc in
          subst (λ (x : Config). Sub (moves g x) ms') y w.new

  abbrev Closing : ℕ → Type 0
  Closing n = (k : ℕ) (ms : List Config) → Work g start ms → Done k ms → Sub start ms → max_members ≤ n + k → Closed g start (close_from g n k ms)

  closing : (n : ℕ) → Closing n
  unfolding close_from
  closing zero k ms w h s l = finished k ms w h s (omega (arith, w.few))
  closing (suc n) k ms w h s l = look (get_elem? ms k) refl (closing n)
    where
      go : {o : Option (List Config)} (c : Config) → get_elem? ms k ≡ some c → Closing n → Adds g start ms (moves g c) o
          → Closed g start (elim o as (λ _. Option (List Config)) [ none ↦ none | some ms' ↦ close_from g n (suc k) ms' ])
      go c e rec (stopped x) = over x
      go c e rec (went {ms' = ms'} v) = rec (suc k) ms' v.work (done_on k e h v) (λ x m. grown-sub g start v x (s x m)) (omega arith)

      look : (o : Option Config) → get_elem? ms k ≡ o → Closing n
          → Closed g start (elim o as (λ _. Option (List Config)) [
            | none ↦ some ms
            | some c ↦ elim (add_all ms (moves g c)) as (λ _. Option (List Config)) [ none ↦ none | some ms' ↦ close_from g n (suc k) ms' ]
          ])
      look none e rec = finished k ms w h s (get-behind ms k e)
      look (some c) e rec = go c e rec (add_all-right g start (moves g c) ms w (λ d m. move (w.reached c (get_in ms k e)) ((moves-right g c d).0 m)))

  -- `close` answers the closure, or none where it is over a limit
  pub close-right : Closed g start (close g start)
  unfolding close
  close-right = go (add_all-right g start start [] nothing (λ c m. from m))
    where
      nothing : Work g start []
      nothing = record {
        distinct = nil;
        reached = λ c m. absurd (Memᴰ.not-nil m);
        small = λ c m. absurd (Memᴰ.not-nil m);
        few =
            omega arith;
      }

      go : {o : Option (List Config)} → Adds g start [] start o
          → Closed g start (elim o as (λ _. Option (List Config)) [ none ↦ none | some ms ↦ close_from g max_members 0 ms ])
      go (stopped x) = over x
      go (went {ms' = ms} v) = closing max_members 0 ms v.work (λ i c l. absurd (omega arith)) v.new (omega arith)

  -- a closure within the limits is not over them
  pub within : {ms : List Config} → Closure g start ms → ¬ Over g start
  within c (deep d r l) = let h = c.small d ((c.exact d).1 r) in omega arith
  within {ms} c (many x) = let k = distinct-short x.distinct ms (λ y m. (c.exact y).1 (x.each y m)) in omega (arith, c.few, x.more)

  -- `close` answers none exactly if the set that the moves reach has more than 256 members or a member with more than 8 entries
  pub close-none : (close g start ≡ none) ↔ Over g start
  close-none = (λ e. out (close-right) e, λ x. back x close-right)
    where
      out : {o : Option (List Config)} → Closed g start o → o ≡ none → Over g start
      out (over x) e = x
      out (whole c) e = clash (cc)

      back : {o : Option (List Config)} → Over g start → Closed g start o → o ≡ none
      back x (over y) = refl
      back x (whole c) = absurd (within c x)

  -- whatever else it answers is exactly the set that the moves reach
  pub close-some : (ms : List Config) → close g start ≡ some ms → Closure g start ms
  close-some ms e = out close-right e
    where
      out : {o : Option (List Config)} → Closed g start o → o ≡ some ms → Closure g start ms
      out (over x) e = clash (cc)
      out (whole {ms = ns} c) e = let q : ns ≡ ms = cc in subst (Closure g start) q c

  -- and it answers where nothing is over the limits
  pub close-answers : ¬ Over g start → (ms : List Config) × (close g start ≡ some ms)
  close-answers n = out close-right
    where
      out : {o : Option (List Config)} → Closed g start o → (ms : List Config) × (o ≡ some ms)
      out (over x) = absurd (n x)
      out (whole {ms = ms} c) = (ms, refl)
