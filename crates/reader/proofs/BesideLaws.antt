-- The pass over bytes, and over the same with more behind them, go the same way, until the first have ended and the second fetch a byte behind them.
use mathlib.Core.Path.{◌≡◌, refl, ap, subst}
use mathlib.Core.Logic.{◌⊎◌, inl, inr}
use mathlib.Core.Bool.{Bool, true, false, cond}
use mathlib.Core.List.{List, ◌++◌}
use Prim.Native.Nat.{ℕ, zero, suc, ◌+◌, ◌≤◌, ◌<◌}
use native.Mathlib.Omega.{arith}
use lib.ListN.{length, set, length-append}
use lib.Dec.{ltb}
use borrow.Author.Tests.{lt-ltb, le-ltb}
use Rattle.reader.specs.inside.Types.{Read, Cursor, Value, Refused, OverLimit, Trailing}
use Rattle.grammar.specs.Limits.{max_kinds, max_nonterminals, max_productions, max_length, max_places}
use Rattle.number.specs.Fetching.{Tallied, end_of, decided_by}
use Rattle.number.specs.Number.{limited_at, symbol_at}
use Rattle.number.proofs.FetchLaws.{is-cursor}
use Rattle.number.proofs.CountLaws.{Settled, limited-settled, symbol-settled}
use Rattle.number.proofs.AgreeLaws.{Early, Cut, Short, Agree, limited-agree, symbol-agree}
use Rattle.grammar.specs.Decode.{written}
use Rattle.grammar.specs.Grammar.{at}
use Rattle.grammar.specs.inside.Tables.{word_of, firsts_at, rules_at}
use Rattle.reader.specs.inside.Pass.{Out, out, on_read, on_out, symbols_of, productions_of, nonterminals_of, closing, finished, whole_pass}
use Rattle.reader.proofs.CountLaws.{Kept, settled-kept, on-number, on-part, symbols-kept, length-kept, productions-kept, rule-kept, rules-kept}

-- ---- what follows the last nonterminal
-- the answer of a pass over s that came to its end at a cursor
abbrev pub Ended : List ℕ → Cursor → Read → Type 0
Ended s c x = (c.at < length s → x ≡ Refused (Trailing c.at) c) × (length s ≤ c.at → (p : ℕ) × (x ≡ Value p c))

closing-ended : (s : List ℕ) (kt nt p : ℕ) (c : Cursor) (t : List ℕ) → Ended s c (closing s kt nt p c t).answer
unfolding closing
closing-ended s kt nt p c t = (λ h. rw (lt-ltb c.at (length s) h), λ h. (p, rw (le-ltb c.at (length s) h)))

closing-kept : (s : List ℕ) (kt nt p : ℕ) (c : Cursor) (t : List ℕ) → Tallied s c → Kept s c.at (closing s kt nt p c t).answer
unfolding closing decided_by
closing-kept s kt nt p c t h = go (ltb c.at (length s))
  where
    go : (b : Bool) → Kept s c.at (cond b (out (Refused (Trailing c.at) c) t) (out (Value p c) (finished kt nt p t))).answer
    go true = (is-cursor s c h, omega arith, h.1)
    go false = (h, omega arith)

-- all nonterminals, and what follows
nonterminals-kept : (s t : List ℕ) (kt nt : ℕ) (c : Cursor) → Tallied s c
    → Kept s c.at (on_out (nonterminals_of s kt nt 0 nt c.at 0 0 t) (λ p c' t'. closing s kt nt p c' t')).answer
nonterminals-kept s t kt nt c h =
    on-part s c.at (nonterminals_of s kt nt 0 nt c.at 0 0 t) (λ p c' t'. closing s kt nt p c' t')
    (rules-kept s kt nt nt 0 c.at 0 0 t h.1) (λ p c' t' i. closing-kept s kt nt p c' t' i)

-- ---- the pass over bytes, and over the same with more behind them
module _ (w more : List ℕ) where
  -- the same outcome, or the first have ended and the second fetched a byte behind them
  abbrev pub Beside : Out → Out → Type 0
  Beside o o' = ((o ≡ o') × Early o.answer) ⊎ Short w o.answer o'.answer

  beside : (t : List ℕ) (x x' : Read) → Agree w x x' → Beside (out x t) (out x' t)
  beside t x x' (inl (e, h)) = inl (ap (λ (x : Read). out x t) e, h)
  beside t x x' (inr h) = inr h

  -- what began inside w begins inside both
  inside : {b : ℕ} → b ≤ length w → b ≤ length (w ++ more)
  inside h = omega (arith, length-append w more)

  kept-count : (b : ℕ) (x : Read) → Kept (w ++ more) b x → b ≤ (end_of x).count
  kept-count b (Value v c) h = omega (arith, h.0.0, h.1)
  kept-count b (Refused f c) h = omega (arith, ap (λ (c : Cursor). c.count) h.0, h.1)

  -- a number or a part, and what follows it
  module _ (R : Out → Out → Type 0) (lift : (o o' : Out) → Beside o o' → R o o') (b : ℕ) where
    after : (P : Read → Type 0) → ((x : Read) → P x → Kept (w ++ more) b x) → (o o' : Out) (K K' : ℕ → Cursor → List ℕ → Out)
        → Kept w b o.answer → P o'.answer → Beside o o'
        → ((v : ℕ) (c : Cursor) (t : List ℕ) → Tallied w c → R (K v c t) (K' v c t))
        → ((v : ℕ) (c : Cursor) (t : List ℕ) → P (Value v c) → Kept (w ++ more) c.at (K' v c t).answer) → R (on_out o K) (on_out o' K')
    unfolding on_read
    after P into o o' K K' h h' (inl (e, y)) g g' = subst (λ (z : Out). R (on_out o K) (on_out z K')) e (go o.answer h y)
      where
        go : (x : Read) → Kept w b x → Early x
            → R (on_read o.tables x (λ v c. K v c o.tables)) (on_read o.tables x (λ v c. K' v c o.tables))
        go (Value v c) h y = g v c o.tables h.0
        go (Refused f c) h y = lift _ _ (inl (refl, y))
    after P into o o' K K' h h' (inr (y, l)) g g' = lift _ _ (inr (go o.answer o'.answer h' y l))
      where
        go : (x x' : Read) → P x' → Cut x → length w < (end_of x').count
            → Short w (on_read o.tables x (λ v c. K v c o.tables)).answer (on_read o'.tables x' (λ v c. K' v c o'.tables)).answer
        go (Value v c) x' h' y l = absurd y.1
        go (Refused f c) (Value v d) h' y l =
            let k = kept-count d.at (K' v d o'.tables).answer (g' v d o'.tables h') in
            (y, omega (arith, (into (Value v d) h').0.0, k))
        go (Refused f c) (Refused r d) h' y l = (y, l)

    after-part : (o o' : Out) (K K' : ℕ → Cursor → List ℕ → Out) → Kept w b o.answer → Kept (w ++ more) b o'.answer → Beside o o'
        → ((v : ℕ) (c : Cursor) (t : List ℕ) → Tallied w c → R (K v c t) (K' v c t))
        → ((v : ℕ) (c : Cursor) (t : List ℕ) → Tallied (w ++ more) c → Kept (w ++ more) c.at (K' v c t).answer) → R (on_out o K) (on_out o' K')
    after-part o o' K K' h h' a g g' = after (Kept (w ++ more) b) (λ x h. h) o o' K K' h h' a g (λ v c t i. g' v c t i.0)

    after-number : (t : List ℕ) (x x' : Read) (K K' : ℕ → Cursor → Out) → Settled w b x → Settled (w ++ more) b x' → Agree w x x'
        → ((v : ℕ) (c : Cursor) → Tallied w c → R (K v c) (K' v c))
        → ((v : ℕ) (c : Cursor) → Settled (w ++ more) b (Value v c) → Kept (w ++ more) c.at (K' v c).answer) → R (on_read t x K) (on_read t x' K')
    after-number t x x' K K' h h' a g g' =
        after (Settled (w ++ more) b) (settled-kept (w ++ more) b) (out x t) (out x' t) (λ v c t. K v c) (λ v c t. K' v c)
        (settled-kept w b x h) h' (beside t x x' a) (λ v c t i. g v c i) (λ v c t i. g' v c i)

  module _ (kt nt : ℕ) where
    symbols-beside : (a n b p : ℕ) (t : List ℕ) → b ≤ length w → Beside (symbols_of w kt nt a n b p t) (symbols_of (w ++ more) kt nt a n b p t)
    unfolding symbols_of
    symbols-beside a zero b p t h = inl (refl, tt)
    symbols-beside a (suc n) b p t h =
        after-number Beside (λ o o' z. z) b t (symbol_at w kt nt b) (symbol_at (w ++ more) kt nt b) _ _
        (symbol-settled w b kt nt h) (symbol-settled (w ++ more) b kt nt (inside h)) (symbol-agree w more kt nt b h)
        (λ v c i. symbols-beside a n c.at (p + 1) (set t p (word_of (at a (written v)))) i.1)
        (λ v c i. symbols-kept (w ++ more) kt nt a n c.at (p + 1) _ (settled-kept (w ++ more) b (Value v c) i).0.1)

    -- behind a length: its production, if there are places for it, and the productions that follow
    length-beside : (a n b p k : ℕ) (t : List ℕ) (m : ℕ) (c : Cursor) → Tallied w c
        → ((d q : ℕ) (t' : List ℕ) → d ≤ length w
        → Beside (productions_of w kt nt a n d q (k + 1) t') (productions_of (w ++ more) kt nt a n d q (k + 1) t'))
        → (full : Bool)
        → Beside (cond full (out (Refused (OverLimit b) c) t)
        (on_out (symbols_of w kt nt a m c.at p (set t (firsts_at + k) p)) (λ q c' t'. productions_of w kt nt a n c'.at q (k + 1) t')))
        (cond full (out (Refused (OverLimit b) c) t)
        (on_out (symbols_of (w ++ more) kt nt a m c.at p (set t (firsts_at + k) p))
        (λ q c' t'. productions_of (w ++ more) kt nt a n c'.at q (k + 1) t')))
    length-beside a n b p k t m c j ih true = inl (refl, tt)
    length-beside a n b p k t m c j ih false =
        after-part Beside (λ o o' z. z) c.at (symbols_of w kt nt a m c.at p (set t (firsts_at + k) p))
        (symbols_of (w ++ more) kt nt a m c.at p (set t (firsts_at + k) p))
        (λ q c' t'. productions_of w kt nt a n c'.at q (k + 1) t') (λ q c' t'. productions_of (w ++ more) kt nt a n c'.at q (k + 1) t')
        (symbols-kept w kt nt a m c.at p _ j.1) (symbols-kept (w ++ more) kt nt a m c.at p _ (inside j.1))
        (symbols-beside a m c.at p (set t (firsts_at + k) p) j.1)
        (λ q d t' i. ih d.at q t' i.1) (λ q d t' i. productions-kept (w ++ more) kt nt a n d.at q (k + 1) t' i.1)

    productions-beside : (a n b p k : ℕ) (t : List ℕ) → b ≤ length w
        → Beside (productions_of w kt nt a n b p k t) (productions_of (w ++ more) kt nt a n b p k t)
    unfolding productions_of
    productions-beside a zero b p k t h = inl (refl, tt)
    productions-beside a (suc n) b p k t h =
        after-number Beside (λ o o' z. z) b t (limited_at w 0 max_length b) (limited_at (w ++ more) 0 max_length b) _ _
        (limited-settled w b 0 max_length h) (limited-settled (w ++ more) b 0 max_length (inside h)) (limited-agree w more 0 max_length b h)
        (λ m c i. length-beside a n b p k t m c i (λ d q t' l. productions-beside a n d q (k + 1) t' l) (ltb max_places (p + m + 1)))
        (λ m c i. length-kept (w ++ more) kt nt a n b p k t m c i (λ d q t' l. productions-kept (w ++ more) kt nt a n d q (k + 1) t' l)
        (ltb max_places (p + m + 1)))

    rules-beside : (n a b p k : ℕ) (t : List ℕ) → b ≤ length w
        → Beside (nonterminals_of w kt nt a n b p k t) (nonterminals_of (w ++ more) kt nt a n b p k t)
    unfolding nonterminals_of
    rules-beside zero a b p k t h = inl (refl, tt)
    rules-beside (suc n) a b p k t h =
        after-number Beside (λ o o' z. z) b t (limited_at w 1 max_productions b) (limited_at (w ++ more) 1 max_productions b) _ _
        (limited-settled w b 1 max_productions h) (limited-settled (w ++ more) b 1 max_productions (inside h)) (limited-agree w more 1 max_productions b h)
        (λ m c i.
        after-part Beside (λ o o' z. z) c.at (productions_of w kt nt a m c.at p k (set t (rules_at + a) k))
        (productions_of (w ++ more) kt nt a m c.at p k (set t (rules_at + a) k))
        (λ q c' t'. nonterminals_of w kt nt (a + 1) n c'.at q (k + m) t') (λ q c' t'. nonterminals_of (w ++ more) kt nt (a + 1) n c'.at q (k + m) t')
        (productions-kept w kt nt a m c.at p k _ i.1) (productions-kept (w ++ more) kt nt a m c.at p k _ (inside i.1))
        (productions-beside a m c.at p k (set t (rules_at + a) k) i.1)
        (λ q d t' j. rules-beside n (a + 1) d.at q (k + m) t' j.1)
        (λ q d t' j. rules-kept (w ++ more) kt nt n (a + 1) d.at q (k + m) t' j.1))
        (λ m c i. rule-kept (w ++ more) kt nt n a b p k t m c i (λ d q k' t' l. rules-kept (w ++ more) kt nt n (a + 1) d q k' t' l))

  -- the whole: or both came to the end of the last nonterminal
  abbrev pub Ends : Out → Out → Type 0
  Ends o o' = Beside o o' ⊎ ((c : Cursor) × Tallied w c × Ended w c o.answer × Ended (w ++ more) c o'.answer)

  pub pass-ends : (t : List ℕ) → Ends (whole_pass w t) (whole_pass (w ++ more) t)
  unfolding whole_pass
  pass-ends t =
      after-number Ends (λ o o' z. inl z) 0 t (limited_at w 1 max_kinds 0) (limited_at (w ++ more) 1 max_kinds 0) _ _
      (limited-settled w 0 1 max_kinds (omega arith)) (limited-settled (w ++ more) 0 1 max_kinds (omega arith))
      (limited-agree w more 1 max_kinds 0 (omega arith))
      (λ kt c i.
      after-number Ends (λ o o' z. inl z) c.at t (limited_at w 1 max_nonterminals c.at) (limited_at (w ++ more) 1 max_nonterminals c.at) _ _
      (limited-settled w c.at 1 max_nonterminals i.1) (limited-settled (w ++ more) c.at 1 max_nonterminals (inside i.1))
      (limited-agree w more 1 max_nonterminals c.at i.1)
      (λ nt d j.
      after-part Ends (λ o o' z. inl z) d.at (nonterminals_of w kt nt 0 nt d.at 0 0 t) (nonterminals_of (w ++ more) kt nt 0 nt d.at 0 0 t)
      (λ p c' t'. closing w kt nt p c' t') (λ p c' t'. closing (w ++ more) kt nt p c' t')
      (rules-kept w kt nt nt 0 d.at 0 0 t j.1) (rules-kept (w ++ more) kt nt nt 0 d.at 0 0 t (inside j.1))
      (rules-beside kt nt nt 0 d.at 0 0 t j.1)
      (λ p c' t' k. inr (c', k, closing-ended w kt nt p c' t', closing-ended (w ++ more) kt nt p c' t'))
      (λ p c' t' k. closing-kept (w ++ more) kt nt p c' t' k))
      (λ nt d j. nonterminals-kept (w ++ more) t kt nt d (settled-kept (w ++ more) c.at (Value nt d) j).0))
      (λ kt c i.
      let k = (settled-kept (w ++ more) 0 (Value kt c) i).0 in
      on-number (w ++ more) c.at t (limited_at (w ++ more) 1 max_nonterminals c.at) _ (limited-settled (w ++ more) c.at 1 max_nonterminals k.1)
      (λ nt d j. nonterminals-kept (w ++ more) t kt nt d (settled-kept (w ++ more) c.at (Value nt d) j).0))
