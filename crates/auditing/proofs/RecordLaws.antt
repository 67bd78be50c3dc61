-- The tests of recorded outcomes: every recorded start and step is what the rules give.
use mathlib.Core.Path.{◌≡◌}
use mathlib.Core.Logic.{⊎_elim, ◌≢◌}
use mathlib.Core.Bool.{Bool, ◌&&◌, ◌||◌}
use mathlib.Core.List.{List}
use Prim.Native.Nat.{ℕ, suc, ◌-◌, ◌≤◌, ◌<◌}
use native.Mathlib.Omega.{arith}
use native.Mathlib.Decide.{dec_lt, ℕ_discrete}
use lib.Dec.{T, eqb, ltb, leb, eqb_refl, eqb→eq, ltb→lt, lt→ltb, leb→le, le→leb}
use lib.ListN.{length}
use borrow.Author.Tests.{eq-eqb}
use Rattle.base.specs.Search.{all_from}
use Rattle.base.proofs.AllLaws.{all-T, T-all}
use Rattle.base.proofs.Booleans.{and_T, T_and, or-T, T-or-l, T-or-r, true→T}
use Rattle.grammar.specs.Limits.{max_nonterminals}
use Rattle.grammar.specs.Grammar.{Grammar, alternatives}
use Rattle.lookahead.specs.Configs.{Decides}
use Rattle.lookahead.specs.Closing.{same_list}
use Rattle.lookahead.specs.Outcomes.{Outcome, full, alternative, state, start_outcome, step_outcome}
use Rattle.lookahead.specs.Rules.{Each}
use Rattle.lookahead.proofs.AddLaws.{same-list, list_same}
use Rattle.lookahead.proofs.Bounds.{Bounded}
use Rattle.configurations.specs.Packing.{pack_all}
use Rattle.words.specs.Layout.{full_word, state_word}
use Rattle.words.specs.Words.{held, start_of, step_of, decision, kept_words, kept_in}
use Rattle.cache.specs.Coherent.{Says, Storable}
use Rattle.cache.proofs.FitLaws.{Recordable, start-recordable, step-recordable}
use Rattle.auditing.specs.Coherence.{decides?, names?, says?, start?, step?, steps?, recorded?}
use Rattle.auditing.proofs.SlotLaws.{decides-T, T-decides}

-- ---- the word w says the outcome o of decision a
module _ (c : List ℕ) (a w : ℕ) where
  pub says-T : (o : Outcome) → Recordable o → T (says? c a w o) → Says c a w o
  unfolding says? names?
  says-T full r t = eqb→eq w full_word t
  says-T (alternative b) r t = (eqb→eq w b t, r.0, r.1)
  says-T (state ks) r t =
      let s = w - state_word 0 in
      let same = same_list (kept_words c s) (pack_all ks) in
      let p = and_T (leb (state_word 0) w) (ltb s (held c) && (eqb (decision c s) a && same)) t in
      let q = and_T (ltb s (held c)) (eqb (decision c s) a && same) p.1 in
      let x = and_T (eqb (decision c s) a) same q.1 in
      let h = leb→le (state_word 0) w p.0 in
      (s, omega arith, ltb→lt s (held c) q.0, eqb→eq (decision c s) a x.0, same-list (kept_words c s) (pack_all ks) x.1)

  pub T-says : (o : Outcome) → Says c a w o → T (says? c a w o)
  unfolding says? names?
  T-says full e = rw e (eqb_refl full_word)
  T-says (alternative b) (e, _, _) = rw e (eqb_refl b)
  T-says (state ks) (s, e, h, d, k) =
      let z : w - state_word 0 ≡ s = omega arith in
      let same = same_list (pack_all ks) (pack_all ks) in
      rw (z, d, k) (T_and (leb (state_word 0) w) (ltb s (held c) && (eqb a a && same)) (le→leb (state_word 0) w (omega arith))
      (T_and (ltb s (held c)) (eqb a a && same) (lt→ltb s (held c) h) (T_and (eqb a a) same (eqb_refl a) (list_same (pack_all ks)))))

-- ---- a word is 0, or else passes a test
else-T : (w : ℕ) (b : Bool) → T (eqb w 0 || b) → w ≢ 0 → T b
else-T w b t n = ⊎_elim (λ z. absurd (n (eqb→eq w 0 z))) (λ y. y) (or-T (eqb w 0) b t)

T-else : (w : ℕ) (b : Bool) → (w ≢ 0 → T b) → T (eqb w 0 || b)
T-else w b h = go (ℕ_discrete w 0)
  where
    go : Dec (w ≡ 0) → T (eqb w 0 || b)
    go (yes e) = T-or-l (eqb w 0) b (true→T (eqb w 0) (eq-eqb w 0 e))
    go (no n) = T-or-r (eqb w 0) b (h n)

module _ (g : Grammar) (c : List ℕ) where
  -- ---- the start of nonterminal a: nothing is recorded for one that decides nothing
  pub record Started (a : ℕ) : Type 0 where
    pub right : Decides g a → start_of c a ≢ 0 → Says c a (start_of c a) (start_outcome g a)
    pub none : ¬ Decides g a → start_of c a ≡ 0

  start-T : Bounded g → (a : ℕ) → T (start? g c a) → Started a
  unfolding start?
  start-T b a t = record {
    right = λ d n. says-T c a (start_of c a) (start_outcome g a) (start-recordable g b a) (told n).1;
    none = λ d. elim (ℕ_discrete (start_of c a) 0) [ yes e ↦ e | no n ↦ absurd (d (decides-T g a (told n).0)) ];
  }
    where
      told : start_of c a ≢ 0 → T (decides? g a) × T (says? c a (start_of c a) (start_outcome g a))
      told n =
          let says = says? c a (start_of c a) (start_outcome g a) in
          and_T (decides? g a) says (else-T (start_of c a) (decides? g a && says) t n)

  T-start : (a : ℕ) → Started a → T (start? g c a)
  unfolding start?
  T-start a h =
      let says = says? c a (start_of c a) (start_outcome g a) in
      T-else (start_of c a) (decides? g a && says)
      (λ n. T_and (decides? g a) says (T-decides g a (decides n)) (T-says c a (start_of c a) (start_outcome g a) (h.right (decides n) n)))
    where
      decides : start_of c a ≢ 0 → Decides g a
      decides n = elim (dec_lt 1 (length (alternatives g a))) [ yes d ↦ d | no d ↦ absurd (n (h.none d)) ]

  -- ---- the step of slot s over token t
  abbrev pub Stepped : ℕ → ℕ → Type 0
  Stepped s t = step_of c s t ≢ 0 → Says c (decision c s) (step_of c s t) (step_outcome g t (kept_in c s))

  step-T : Bounded g → (s t : ℕ) → Each Storable (kept_in c s) → T (step? g c s t) → Stepped s t
  unfolding step?
  step-T b s t f x n =
      let o = step_outcome g t (kept_in c s) in
      let says = else-T (step_of c s t) (says? c (decision c s) (step_of c s t) o) x n in
      says-T c (decision c s) (step_of c s t) o (step-recordable g b t (kept_in c s) f) says

  T-step : (s t : ℕ) → Stepped s t → T (step? g c s t)
  unfolding step?
  T-step s t h =
      let o = step_outcome g t (kept_in c s) in
      T-else (step_of c s t) (says? c (decision c s) (step_of c s t) o) (λ n. T-says c (decision c s) (step_of c s t) o (h n))

  -- ---- every start, and every step of the states held
  pub record Recorded : Type 0 where
    pub starts : (a : ℕ) → a < max_nonterminals → Started a
    pub steps : (s t : ℕ) → s < held c → t ≤ g.kinds → Stepped s t

  pub recorded-T : Bounded g → ((s : ℕ) → s < held c → Each Storable (kept_in c s)) → T (recorded? g c) → Recorded
  unfolding recorded? steps?
  recorded-T b f x =
      let p = and_T (all_from (start? g c) 0 max_nonterminals) (all_from (steps? g c) 0 (held c)) x in
      record {
        starts = λ a l. start-T b a (all-T (start? g c) 0 max_nonterminals p.0 a (omega arith) (omega arith));
        steps = λ s t h l.
            let y = all-T (steps? g c) 0 (held c) p.1 s (omega arith) (omega arith) in
            step-T b s t (f s h) (all-T (step? g c s) 0 (suc g.kinds) y t (omega arith) (omega arith));
      }

  pub T-recorded : Recorded → T (recorded? g c)
  unfolding recorded? steps?
  T-recorded h =
      T_and (all_from (start? g c) 0 max_nonterminals) (all_from (steps? g c) 0 (held c))
      (T-all (start? g c) 0 max_nonterminals (λ a _ l. T-start a (h.starts a (omega arith))))
      (T-all (steps? g c) 0 (held c) (λ s _ l. T-all (step? g c s) 0 (suc g.kinds) (λ t _ m. T-step s t (h.steps s t (omega arith) (omega arith)))))
