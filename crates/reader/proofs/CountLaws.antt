-- The cursor that the pass hands back, wherever it ended: behind the last byte that decided.
use mathlib.Core.Path.{◌≡◌, refl, sym, ap, subst, ◌∙◌}
use mathlib.Core.Bool.{Bool, true, false, cond}
use mathlib.Core.List.{List}
use Prim.Native.Nat.{ℕ, zero, suc, ◌+◌, ◌≤◌}
use native.Mathlib.Omega.{arith}
use lib.ListN.{length, set}
use lib.Dec.{ltb}
use borrow.Author.Tests.{ltb-false}
use Rattle.reader.specs.inside.Types.{Read, Cursor, Value, Refused, OverLimit, Trailing}
use Rattle.grammar.specs.Limits.{max_kinds, max_nonterminals, max_productions, max_length, max_places}
use Rattle.number.specs.Fetching.{cursor, Tallied, Fetched, end_of, decided_by}
use Rattle.number.specs.Number.{limited_at, symbol_at}
use Rattle.number.proofs.NumberLaws.{refused-at}
use Rattle.number.proofs.FetchLaws.{is-cursor, tallied-fetched}
use Rattle.number.proofs.CountLaws.{Settled, limited-settled, symbol-settled}
use Rattle.grammar.specs.Decode.{Rules, Parsed, got, refused, written, decode}
use Rattle.grammar.specs.Grammar.{at, Limited}
use Rattle.grammar.specs.inside.Tables.{word_of, firsts_at, rules_at}
use Rattle.reader.specs.Counting.{fetched_for, bytes_fetched, CountsBytes}
use Rattle.reader.specs.inside.Pass.{Out, out, on_read, on_out, symbols_of, productions_of, nonterminals_of, closing, finished, whole_pass}
use Rattle.reader.proofs.PassLaws.{Same, pass_out, pass_same}

module _ (s : List ℕ) where
  -- an outcome of a part that started at byte b: its cursor is one of the pass, and of a refusal it stands behind the byte that decided
  abbrev pub Kept : ℕ → Read → Type 0
  Kept b (Value v c) = Tallied s c × (b ≤ c.at)
  Kept b (Refused f c) = (c ≡ cursor (decided_by s f)) × (b ≤ decided_by s f) × (decided_by s f ≤ length s)

  kept_from : {b d : ℕ} → b ≤ d → (x : Read) → Kept d x → Kept b x
  kept_from l (Value v c) h = (h.0, omega (arith, h.1))
  kept_from l (Refused f c) h = (h.0, omega (arith, h.1), h.2)

  pub settled-kept : (b : ℕ) (x : Read) → Settled s b x → Kept b x
  settled-kept b (Value v c) h = rw h.0 ((refl, h.1), omega arith)
  settled-kept b (Refused f c) h = h

  -- a number, and what follows it
  pub on-number : (b : ℕ) (t : List ℕ) (x : Read) (K : ℕ → Cursor → Out) → Settled s b x
      → ((v : ℕ) (c : Cursor) → Settled s b (Value v c) → Kept c.at (K v c).answer) → Kept b (on_read t x K).answer
  unfolding on_read
  on-number b t (Value v c) K h g = kept_from (settled-kept b (Value v c) h).1 (K v c).answer (g v c h)
  on-number b t (Refused f c) K h g = h

  -- a part, and what follows it
  pub on-part : (b : ℕ) (o : Out) (K : ℕ → Cursor → List ℕ → Out) → Kept b o.answer
      → ((v : ℕ) (c : Cursor) (t : List ℕ) → Tallied s c → Kept c.at (K v c t).answer) → Kept b (on_out o K).answer
  unfolding on_read
  on-part b o K h g = go o.answer h
    where
      go : (x : Read) → Kept b x → Kept b (on_read o.tables x (λ v c. K v c o.tables)).answer
      go (Value v c) h = kept_from h.1 (K v c o.tables).answer (g v c o.tables h.0)
      go (Refused f c) h = h

  module _ (kt nt : ℕ) where
    pub symbols-kept : (a n b p : ℕ) (t : List ℕ) → b ≤ length s → Kept b (symbols_of s kt nt a n b p t).answer
    unfolding symbols_of
    symbols-kept a zero b p t h = ((refl, h), omega arith)
    symbols-kept a (suc n) b p t h =
        on-number b t (symbol_at s kt nt b) _ (symbol-settled s b kt nt h) (λ v c k.
        symbols-kept a n c.at (p + 1) (set t p (word_of (at a (written v)))) (settled-kept b (Value v c) k).0.1)

    -- behind a length: its production, if there are places for it, and the productions that follow
    pub length-kept : (a n b p k : ℕ) (t : List ℕ) (m : ℕ) (c : Cursor) → Settled s b (Value m c)
        → ((d q : ℕ) (t' : List ℕ) → d ≤ length s → Kept d (productions_of s kt nt a n d q (k + 1) t').answer) → (full : Bool)
        → Kept c.at (cond full (out (Refused (OverLimit b) c) t)
        (on_out (symbols_of s kt nt a m c.at p (set t (firsts_at + k) p)) (λ q c' t'. productions_of s kt nt a n c'.at q (k + 1) t'))).answer
    unfolding decided_by
    length-kept a n b p k t m c j ih true = (j.0, omega (arith, ap (λ (c : Cursor). c.at) j.0), j.1)
    length-kept a n b p k t m c j ih false =
        on-part c.at (symbols_of s kt nt a m c.at p (set t (firsts_at + k) p)) (λ q c' t'. productions_of s kt nt a n c'.at q (k + 1) t')
        (symbols-kept a m c.at p (set t (firsts_at + k) p) (settled-kept b (Value m c) j).0.1) (λ r d t' i. ih d.at r t' i.1)

    pub productions-kept : (a n b p k : ℕ) (t : List ℕ) → b ≤ length s → Kept b (productions_of s kt nt a n b p k t).answer
    unfolding productions_of
    productions-kept a zero b p k t h = ((refl, h), omega arith)
    productions-kept a (suc n) b p k t h =
        on-number b t (limited_at s 0 max_length b) _ (limited-settled s b 0 max_length h) (λ m c j.
        length-kept a n b p k t m c j (λ d q t' l. productions-kept a n d q (k + 1) t' l) (ltb max_places (p + m + 1)))

    -- behind the number of a nonterminal's productions: these, and the nonterminals that follow
    pub rule-kept : (n a b p k : ℕ) (t : List ℕ) (m : ℕ) (c : Cursor) → Settled s b (Value m c)
        → ((d q k' : ℕ) (t' : List ℕ) → d ≤ length s → Kept d (nonterminals_of s kt nt (a + 1) n d q k' t').answer)
        → Kept c.at
        (on_out (productions_of s kt nt a m c.at p k (set t (rules_at + a) k)) (λ q c' t'. nonterminals_of s kt nt (a + 1) n c'.at q (k + m) t')).answer
    rule-kept n a b p k t m c j ih =
        on-part c.at (productions_of s kt nt a m c.at p k (set t (rules_at + a) k)) (λ q c' t'. nonterminals_of s kt nt (a + 1) n c'.at q (k + m) t')
        (productions-kept a m c.at p k (set t (rules_at + a) k) (settled-kept b (Value m c) j).0.1) (λ r d t' i. ih d.at r (k + m) t' i.1)

    pub rules-kept : (n a b p k : ℕ) (t : List ℕ) → b ≤ length s → Kept b (nonterminals_of s kt nt a n b p k t).answer
    unfolding nonterminals_of
    rules-kept zero a b p k t h = ((refl, h), omega arith)
    rules-kept (suc n) a b p k t h =
        on-number b t (limited_at s 1 max_productions b) _ (limited-settled s b 1 max_productions h) (λ m c j.
        rule-kept n a b p k t m c j (λ d q k' t' l. rules-kept n (a + 1) d q k' t' l))

  -- ---- the whole
  -- a whole grammar has no byte that was not fetched
  abbrev pub Final : Read → Type 0
  Final (Value v c) = c ≡ cursor (length s)
  Final (Refused f c) = (c ≡ cursor (decided_by s f)) × (decided_by s f ≤ length s)

  refused-final : (b : ℕ) (t : List ℕ) (x : Read) (K : ℕ → Cursor → Out) → Kept b x
      → ((v : ℕ) (c : Cursor) → Tallied s c → Final (K v c).answer) → Final (on_read t x K).answer
  unfolding on_read
  refused-final b t (Value v c) K h g = g v c h.0
  refused-final b t (Refused f c) K h g = (h.0, h.2)

  closing-final : (kt nt p : ℕ) (c : Cursor) (t : List ℕ) → Tallied s c → Final (closing s kt nt p c t).answer
  unfolding closing decided_by
  closing-final kt nt p c t h = go (ltb c.at (length s)) refl
    where
      go : (b : Bool) → ltb c.at (length s) ≡ b
          → Final (cond b (out (Refused (Trailing c.at) c) t) (out (Value p c) (finished kt nt p t))).answer
      go true e = (is-cursor s c h, h.1)
      go false e = let l = ltb-false c.at (length s) e in is-cursor s c h ∙ ap cursor (omega (arith, h.1, l))

  pub pass-final : (t : List ℕ) → Final (whole_pass s t).answer
  unfolding whole_pass
  pass-final t =
      refused-final 0 t (limited_at s 1 max_kinds 0) _ (settled-kept 0 (limited_at s 1 max_kinds 0) (limited-settled s 0 1 max_kinds (omega arith))) (λ kt c h.
      refused-final c.at t (limited_at s 1 max_nonterminals c.at) _
      (settled-kept c.at (limited_at s 1 max_nonterminals c.at) (limited-settled s c.at 1 max_nonterminals h.1)) (λ nt c' h'.
      refused-final c'.at (nonterminals_of s kt nt 0 nt c'.at 0 0 t).tables (nonterminals_of s kt nt 0 nt c'.at 0 0 t).answer _
      (rules-kept kt nt nt 0 c'.at 0 0 t h'.1) (λ p c'' h''. closing-final kt nt p c'' _ h'')))

  -- THE COUNT of the pass
  pub pass-counts : (t : List ℕ) {x : Read} {t' : List ℕ} → out x t' ≡ whole_pass s t → CountsBytes s x
  unfolding bytes_fetched
  pass-counts t {x} e = go (decode s) refl (pass_same s t)
    where
      y : x ≡ (whole_pass s t).answer
      y = ap (λ (o : Out). o.answer) e

      final : Final x
      final = subst Final (sym y) (pass-final t)

      counts : end_of x ≡ cursor (bytes_fetched s) → bytes_fetched s ≤ length s → CountsBytes s x
      counts q l = record { count = ap (λ (c : Cursor). c.count) q; fetched = subst (Fetched s _) (sym q) (tallied-fetched s (bytes_fetched s) l) }

      go : (d : Parsed Rules) → decode s ≡ d → Same (whole_pass s t) (pass_out t) (λ r m. Limited r) d → CountsBytes s x
      go (got r m) q h =
          let z : x ≡ _ = y ∙ ap (λ (o : Out). o.answer) h.0 in
          let k : bytes_fetched s ≡ length s = ap (fetched_for s) q in
          counts (ap end_of z ∙ subst Final z final ∙ ap cursor (sym k)) (omega (arith, k))
      go (refused r) q h =
          let f = refused-at (whole_pass s t).answer r h in
          let z = y ∙ f.1 in
          let k : bytes_fetched s ≡ decided_by s r = ap (fetched_for s) q in
          let n = subst Final z final in
          counts (ap end_of z ∙ n.0 ∙ ap cursor (sym k)) (omega (arith, k, n.1))

  -- ---- where a part goes on
  module _ (kt nt a : ℕ) {x : Read} {t' : List ℕ} {v : ℕ} {c : Cursor} where
    tallied-value : (b : ℕ) (o : Out) → Kept b o.answer → out x t' ≡ o → x ≡ Value v c → Tallied s c
    tallied-value b o k e q = (subst (Kept b) (sym (ap (λ (o : Out). o.answer) e) ∙ q) k).0

    pub symbols-tallied : (n b p : ℕ) (t : List ℕ) → b ≤ length s → out x t' ≡ symbols_of s kt nt a n b p t → x ≡ Value v c → Tallied s c
    symbols-tallied n b p t h = tallied-value b (symbols_of s kt nt a n b p t) (symbols-kept kt nt a n b p t h)

    pub productions-tallied : (n b p k : ℕ) (t : List ℕ) → b ≤ length s → out x t' ≡ productions_of s kt nt a n b p k t → x ≡ Value v c → Tallied s c
    productions-tallied n b p k t h = tallied-value b (productions_of s kt nt a n b p k t) (productions-kept kt nt a n b p k t h)
