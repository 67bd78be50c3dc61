-- From what stands next to what to FIRST and FOLLOW: the sets that are joined from closed rows hold them, and nothing else.
use mathlib.Core.Path.{◌≡◌, refl, sym, ap, ◌∙◌}
use mathlib.Core.Logic.{◌⊎◌, inl, inr, ◌↔◌}
use mathlib.Core.Option.{some}
use mathlib.Core.List.{List}
use Prim.Native.Nat.{ℕ, suc, ◌≤◌, ◌<◌}
use native.Mathlib.Omega.{arith}
use native.Mathlib.Decide.{dec_le}
use lib.Dec.{T, eqb→eq}
use lib.ListN.{length, get_or, set, length-set}
use lib.Seq.{get_or-set_other}
use Rattle.base.specs.Bits.{test_bit, set_bit}
use Rattle.grammar.specs.declared.Symbol.{Symbol}
use Rattle.grammar.specs.declared.Symbol.TheVariants.{Token, Nonterminal, End}
use Rattle.grammar.specs.Limits.{max_kinds, max_nonterminals, end_mark}
use Rattle.grammar.specs.Grammar.{Grammar, facing, owner, admits, first}
use Rattle.grammar.specs.inside.Tables.{grammar_in, nonterminals_in}
use Rattle.grammar.proofs.GrammarLaws.{first_below, admits-self}
use Rattle.grammar.proofs.WordLaws.{length-starts-in}
use Rattle.corners.specs.inside.Steps.{reach_of}
use Rattle.corners.proofs.Warshall.{holds, reach-length, reach-closed, reach-keeps, reach-sound}
use Rattle.derivation.specs.inside.Ready.{Ready}
use Rattle.first_follow.specs.FirstFollow.{Skips, First, Follow}
use Rattle.first_follow.specs.inside.Words.{start_at, follow_at}
use Rattle.first_follow.specs.inside.Steps.{Leading, Open, Noted, Fronts, SetIs, Relations, Marking, Gathered, Joined, KindIs, Kinds, Related}
use Rattle.first_follow.proofs.SkipLaws.{skips-owner, leading-owner}
use Rattle.first_follow.proofs.LinedLaws.{Lined, ready-lined, leading-within, open-within}
use Rattle.first_follow.proofs.PassLaws.{adds-set, at_set}

-- ---- a set joined by closed rows
-- without members nothing is joined
join-empty : (rows : List ℕ) (x from : ℕ) → ((a : ℕ) → ¬ T (test_bit x a)) → Joined rows x from from
join-empty rows x from n a = (λ t. inl t, go)
  where
    go : T (test_bit from a) ⊎ ((c : ℕ) × T (test_bit x c) × T (test_bit (get_or rows c 0) a)) → T (test_bit from a)
    go (inl t) = t
    go (inr (c, s, t)) = absurd (n c s)

module _ (n : ℕ) (rows : List ℕ) (few : n ≤ length rows) (x r : ℕ) (J : Joined (reach_of n n rows) x x r) where
  -- it is closed under the rows
  spread-step : ((y : ℕ) → T (test_bit x y) → y < n) → (c a : ℕ) → c < n → T (test_bit r c) → T (holds rows c a) → T (test_bit r a)
  spread-step named c a l t h = (J a).1 (inr (go ((J c).0 t)))
    where
      go : T (test_bit x c) ⊎ ((y : ℕ) × T (test_bit x y) × T (holds (reach_of n n rows) y c))
          → (y : ℕ) × T (test_bit x y) × T (holds (reach_of n n rows) y a)
      go (inl s) = (c, s, reach-keeps n n rows few c a l h)
      go (inr (y, s, u)) = (y, s, reach-closed n n rows few (omega arith) y c a (named y s) l l u (reach-keeps n n rows few c a l h))

  -- and what holds of its first members and goes along the rows holds of all
  spread-sound : (P : ℕ → Type 0) → ((y : ℕ) → T (test_bit x y) → (y < n) × P y) → ((c a : ℕ) → c < n → T (holds rows c a) → P c → P a)
      → (a : ℕ) → T (test_bit r a) → P a
  spread-sound P first step a t = go ((J a).0 t)
    where
      go : T (test_bit x a) ⊎ ((y : ℕ) × T (test_bit x y) × T (holds (reach_of n n rows) y a)) → P a
      go (inl s) = (first a s).1
      go (inr (y, s, u)) =
          let p = first y s in
          reach-sound n (λ c d. P c → P d) (λ c d e f g z. g (f z)) n rows few (omega arith) step y a p.0 u p.1

pub admits-is : (g : Grammar) (k t : ℕ) → T (admits g k t) → k ≡ t
unfolding admits
admits-is g k t a = eqb→eq k t a

-- ---- the rules of FIRST and FOLLOW, of what is noted at the places of all productions
module _ {g : Grammar} (L : Lined g) where
  abbrev n : ℕ
  n = length g.starts

  -- FIRST and FOLLOW are of nonterminals that the grammar has
  first-named : {t a : ℕ} → First g t a → a < n
  first-named {t} {a} (First.token b d s e k) = first_below g a b d
  first-named {t} {a} (First.call b d s e x) = first_below g a b d

  follow-named : {t a : ℕ} → Follow g t a → a < n
  follow-named (Follow.mark e) = L.some_one
  follow-named (Follow.token {p = p} {a = a} d s e k) = L.named p a d
  follow-named (Follow.call {p = p} {a = a} d s e x) = L.named p a d
  follow-named (Follow.end {p = p} {a = a} d s e x) = L.named p a d

  module _ {a q : ℕ} where
    front-noted : {s : Symbol} {f : ℕ} (b : ℕ) → first g a b ≡ some f → Skips g f q → facing g q ≡ s → Noted g g.size s (Fronts g a)
    front-noted {s} {f} b d z e =
        let x : Leading g q = record { who = a; alternative = b; start = f; begins = d; skips = z } in
        record { place = q; below = leading-within L x; faces = e; has = (leading-owner L.order x, x) }

    open-noted : {s : Symbol} {p : ℕ} → facing g p ≡ Nonterminal a → Skips g (suc p) q → facing g q ≡ s → Noted g g.size s (λ q. Open g q a)
    open-noted {s} {p} d z e =
        let x : Open g q a = record { place = p; calls = d; skips = z } in record { place = q; below = open-within L x; faces = e; has = x }

    last-noted : {p : ℕ} → facing g p ≡ Nonterminal a → Skips g (suc p) q → facing g q ≡ End
        → Noted g g.size End (λ q. (owner g q ≡ owner g p) × Open g q a)
    last-noted {p} d z e =
        let x : Open g q a = record { place = p; calls = d; skips = z } in
        record { place = q; below = open-within L x; faces = e; has = (skips-owner L.order z ∙ L.order.call-on p a d, x) }

  -- a place in front stands in a production of its owner
  front-begins : {a q : ℕ} (x : Fronts g a q) → first g a x.1.alternative ≡ some x.1.start
  front-begins {a} x = let z : x.1.who ≡ a = sym (leading-owner L.order x.1) ∙ x.0 in rw z at x.1.begins

  module _ {t a : ℕ} where
    noted-token : Noted g g.size (Token t) (Fronts g a) → First g t a
    noted-token x = First.token x.has.1.alternative (front-begins x.has) x.has.1.skips x.faces (admits-self g t)

    noted_call : {c : ℕ} → Noted g g.size (Nonterminal c) (Fronts g a) → First g t c → First g t a
    noted_call x y = First.call x.has.1.alternative (front-begins x.has) x.has.1.skips x.faces y

    noted-behind : Noted g g.size (Token t) (λ q. Open g q a) → Follow g t a
    noted-behind x = Follow.token x.has.calls x.has.skips x.faces (admits-self g t)

    noted-before : {c : ℕ} → Noted g g.size (Nonterminal c) (λ q. Open g q a) → First g t c → Follow g t a
    noted-before x y = Follow.call x.has.calls x.has.skips x.faces y

    noted-last : {c : ℕ} → Noted g g.size End (λ q. (owner g q ≡ c) × Open g q a) → Follow g t c → Follow g t a
    noted-last {c} x y =
        let o = x.has.1 in
        let z : owner g o.place ≡ c = sym (skips-owner L.order o.skips ∙ L.order.call-on o.place a o.calls) ∙ x.has.0 in
        Follow.end o.calls o.skips x.faces (rw z y)

  -- ---- the words
  module _ (R : Relations) (G : Gathered g g.size R) where
    -- with the end mark behind the start symbol, and the rows closed
    abbrev closed : Relations
    closed = record {
      masks = set R.masks 1 (set_bit (get_or R.masks 1 0) 0);
      above = reach_of n n R.above;
      before = R.before;
      last = reach_of n n R.last;
    }

    front-is : (t : ℕ) → t ≤ max_kinds → SetIs (get_or closed.masks (start_at t) 0) (λ a. Noted g g.size (Token t) (Fronts g a))
    front-is t few = rw (get_or-set_other R.masks 1 (start_at t) (set_bit (get_or R.masks 1 0) 0) 0 (λ e. omega arith)) (G.front-is t few)

    behind-is : (t : ℕ) → t ≤ max_kinds
        → SetIs (get_or closed.masks (follow_at t) 0) (λ a. Noted g g.size (Token t) (λ q. Open g q a) ⊎ ((t ≡ end_mark) × (a ≡ 0)))
    behind-is t few a =
        at_set (λ w. T (test_bit w a) ↔ Behind) R.masks 1 (set_bit word 0) (follow_at t) (omega (arith, G.long.masks-long))
        (λ e. let h : T (test_bit word a) ↔ Noted g g.size (Token t) (λ q. Open g q a) = rw e at (G.behind-is t few a) in
        (λ s. marked e h ((adds-set word 0 a).0 s), λ s. (adds-set word 0 a).1 (unmarked h s)))
        (λ m. (λ s. inl ((G.behind-is t few a).0 s), λ s. (G.behind-is t few a).1 (other m s)))
      where
        word : ℕ
        word = get_or R.masks 1 0

        Behind : Type 0
        Behind = Noted g g.size (Token t) (λ q. Open g q a) ⊎ ((t ≡ end_mark) × (a ≡ 0))

        marked : follow_at t ≡ 1 → T (test_bit word a) ↔ Noted g g.size (Token t) (λ q. Open g q a) → T (test_bit word a) ⊎ (a ≡ 0) → Behind
        marked e h (inl s) = inl (h.0 s)
        marked e h (inr z) = inr (omega arith, z)

        unmarked : T (test_bit word a) ↔ Noted g g.size (Token t) (λ q. Open g q a) → Behind → T (test_bit word a) ⊎ (a ≡ 0)
        unmarked h (inl x) = inl (h.1 x)
        unmarked h (inr z) = inr z.1

        other : ¬ (follow_at t ≡ 1) → Behind → Noted g g.size (Token t) (λ q. Open g q a)
        other m (inl x) = x
        other m (inr z) = let y = z.0 in absurd (m (omega arith))

    -- ---- one kind
    module _ (t : ℕ) (few : t ≤ max_kinds) (ws : List ℕ) (K : KindIs closed t ws) where
      rows_few : n ≤ length R.above
      rows_few = omega (arith, L.few, G.long.above-long)

      last-few : n ≤ length R.last
      last-few = omega (arith, L.few, G.long.last-long)

      small : (c : ℕ) → c < n → c < max_nonterminals
      small c l = let h = L.few in omega arith

      front-first : (a : ℕ) → T (test_bit (get_or closed.masks (start_at t) 0) a) → First g t a
      front-first a s = noted-token ((front-is t few a).0 s)

      start_first : (a : ℕ) → T (test_bit (get_or ws (start_at t) 0) a) → First g t a
      start_first =
          spread-sound n R.above rows_few (get_or closed.masks (start_at t) 0) (get_or ws (start_at t) 0) K.start_is (First g t)
          (λ y s. (first-named (front-first y s), front-first y s)) (λ c a l s x. noted_call ((G.above-is c (small c l) a).0 s) x)

      first-start : {a : ℕ} → First g t a → T (test_bit (get_or ws (start_at t) 0) a)
      first-start {a} (First.token {k = k} b d s e m) =
          (K.start_is a).1 (inl ((front-is t few a).1 (rw (admits-is g k t m) at (front-noted b d s e))))
      first-start {a} (First.call {c = c} b d s e x) =
          let l = first-named x in
          spread-step n R.above rows_few (get_or closed.masks (start_at t) 0) (get_or ws (start_at t) 0) K.start_is
          (λ y z. first-named (front-first y z)) c a l (first-start x) ((G.above-is c (small c l) a).1 (front-noted b d s e))

      seeds-follow : (a : ℕ) → T (test_bit K.seeds a) → Follow g t a
      seeds-follow a s = go ((K.seeds-are a).0 s)
        where
          behind : Noted g g.size (Token t) (λ q. Open g q a) ⊎ ((t ≡ end_mark) × (a ≡ 0)) → Follow g t a
          behind (inl x) = noted-behind x
          behind (inr (y, z)) = rw z (Follow.mark y)

          go : T (test_bit (get_or closed.masks (follow_at t) 0) a)
              ⊎ ((c : ℕ) × T (test_bit (get_or ws (start_at t) 0) c) × T (test_bit (get_or R.before c 0) a)) → Follow g t a
          go (inl u) = behind ((behind-is t few a).0 u)
          go (inr (c, u, v)) = let x = start_first c u in noted-before ((G.before-is c (small c (first-named x)) a).0 v) x

      follow-from : (a : ℕ) → T (test_bit (get_or ws (follow_at t) 0) a) → Follow g t a
      follow-from =
          spread-sound n R.last last-few K.seeds (get_or ws (follow_at t) 0) K.follow-is (Follow g t)
          (λ y s. (follow-named (seeds-follow y s), seeds-follow y s)) (λ c a l s x. noted-last ((G.last-is c (small c l) a).0 s) x)

      seed-follows : (a : ℕ) → T (test_bit K.seeds a) → T (test_bit (get_or ws (follow_at t) 0) a)
      seed-follows a s = (K.follow-is a).1 (inl s)

      behind-follows : (a : ℕ) → Noted g g.size (Token t) (λ q. Open g q a) ⊎ ((t ≡ end_mark) × (a ≡ 0)) → T (test_bit (get_or ws (follow_at t) 0) a)
      behind-follows a x = seed-follows a ((K.seeds-are a).1 (inl ((behind-is t few a).1 x)))

      follow-in : {a : ℕ} → Follow g t a → T (test_bit (get_or ws (follow_at t) 0) a)
      follow-in (Follow.mark e) = behind-follows 0 (inr (e, refl))
      follow-in {a} (Follow.token {k = k} d s e m) = behind-follows a (inl (rw (admits-is g k t m) at (open-noted d s e)))
      follow-in {a} (Follow.call {c = c} d s e x) =
          seed-follows a ((K.seeds-are a).1 (inr (c, first-start x, (G.before-is c (small c (first-named x)) a).1 (open-noted d s e))))
      follow-in {a} (Follow.end {p = p} d s e x) =
          let l = follow-named x in
          spread-step n R.last last-few K.seeds (get_or ws (follow_at t) 0) K.follow-is (λ y z. follow-named (seeds-follow y z)) (owner g p) a l
          (follow-in x) ((G.last-is (owner g p) (small (owner g p) l) a).1 (last-noted d s e))

    -- ---- all kinds: those that the grammar has not are neither in front of anything nor behind it
    module _ (ws : List ℕ) (h : Kinds closed (suc g.kinds) ws) where
      no_front : (t a : ℕ) → t ≤ max_kinds → g.kinds < t → ¬ T (test_bit (get_or closed.masks (start_at t) 0) a)
      no_front t a few l s = let x = (front-is t few a).0 s in let k = L.kind x.place t x.below x.faces in omega arith

      no-behind : (t a : ℕ) → t ≤ max_kinds → g.kinds < t → ¬ T (test_bit (get_or closed.masks (follow_at t) 0) a)
      no-behind t a few l s = go ((behind-is t few a).0 s)
        where
          go : Noted g g.size (Token t) (λ q. Open g q a) ⊎ ((t ≡ end_mark) × (a ≡ 0)) → ⊥
          go (inl x) = let k = L.kind x.place t x.below x.faces in omega arith
          go (inr y) = let z = y.0 in omega arith

      every-kind : (t : ℕ) → t ≤ max_kinds → KindIs closed t ws
      every-kind t few = go (dec_le t g.kinds)
        where
          front : ℕ
          front = get_or closed.masks (start_at t) 0

          behind : ℕ
          behind = get_or closed.masks (follow_at t) 0

          go : Dec (t ≤ g.kinds) → KindIs closed t ws
          go (yes l) = h.done t (omega arith)
          go (no l) = record {
            seeds = behind;
            start_is = rw (h.kept (start_at t) (omega arith)) (join-empty closed.above front front (λ a. no_front t a few (omega arith)));
            seeds-are = rw (h.kept (start_at t) (omega arith)) (join-empty closed.before front behind (λ a. no_front t a few (omega arith)));
            follow-is = rw (h.kept (follow_at t) (omega arith)) (join-empty closed.last behind behind (λ a. no-behind t a few (omega arith)));
          }

      related : Related g ws
      related = record {
        start_is = λ t few a. (start_first t few ws (every-kind t few) a, λ x. first-start t few ws (every-kind t few) x);
        follow-is = λ t few a. (follow-from t few ws (every-kind t few) a, λ x. follow-in t few ws (every-kind t few) x);
      }

-- ---- as the code has it: the words after the pass, the end mark behind the start symbol, and both closures
module _ (t : List ℕ) (ready : Ready t) (R : Relations) (G : Gathered (grammar_in t) (grammar_in t).size R) {n w kinds : ℕ} {above last : List ℕ}
    (count : n ≡ nonterminals_in t) (mark : w ≡ set_bit (get_or R.masks 1 0) 0) (up : above ≡ reach_of n n R.above) (down : last ≡ reach_of n n R.last)
    (most : kinds ≡ (grammar_in t).kinds) where
  abbrev after : Relations
  after = record { masks = set R.masks 1 w; above = above; before = R.before; last = last }

  pub related-requires : (kinds ≤ max_kinds) × Marking after
  related-requires = (
    (let h = (ready-lined t ready).few-kinds in omega arith),
    record {
      masks-long = simp length-set G.long.masks-long;
      above-long = ap length up ∙ reach-length n n R.above ∙ G.long.above-long;
      before-long = G.long.before-long;
      last-long = ap length down ∙ reach-length n n R.last ∙ G.long.last-long;
    },
  )

  after_is : after ≡ closed (ready-lined t ready) R G
  after_is = let e : n ≡ length (grammar_in t).starts = count ∙ sym (length-starts-in t) in rw (mark, up, down, e)

  pub related-done : (ws : List ℕ) → Kinds after (suc kinds) ws → Related (grammar_in t) ws
  related-done ws h = related (ready-lined t ready) R G ws (rw (after_is, most) at h)
