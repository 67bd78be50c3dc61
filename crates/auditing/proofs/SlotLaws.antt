-- The test that a slot is laid out as a state, for a slot within the words.
use mathlib.Core.Path.{◌≡◌, subst, ap}
use mathlib.Core.Bool.{◌&&◌}
use mathlib.Core.List.{List}
use Prim.Native.Nat.{ℕ, suc, ◌+◌, ◌*◌, ◌≤◌, ◌<◌}
use native.Mathlib.Omega.{arith}
use lib.Dec.{T, leb, ltb→lt, lt→ltb, leb→le, le→leb}
use lib.ListN.{length}
use Rattle.base.proofs.Booleans.{and_T, T_and}
use Rattle.grammar.specs.Grammar.{Grammar, alternatives}
use Rattle.lookahead.specs.Configs.{Decides}
use Rattle.lookahead.specs.Closing.{max_kept}
use Rattle.configurations.specs.Packing.{config_words}
use Rattle.configurations.proofs.PackLaws.{length-pack_all}
use Rattle.words.specs.Layout.{slots, slot_at, count_at, step_at, configs_at}
use Rattle.words.specs.Words.{word, decision, kept_count, kept_words, kept_in}
use Rattle.words.proofs.WordLaws.{kept-long}
use Rattle.cache.specs.Coherent.{Slot}
use Rattle.auditing.specs.Coherence.{zeros?, decides?, kept?, slot?}
use Rattle.auditing.proofs.ZeroLaws.{Zeros, zeros-T, T-zeros}
use Rattle.auditing.proofs.KeptLaws.{Keeps, kept-T, T-kept}

-- ---- decisions
pub decides-T : (g : Grammar) (a : ℕ) → T (decides? g a) → Decides g a
unfolding decides?
decides-T g a t = ltb→lt 1 (length (alternatives g a)) t

pub T-decides : (g : Grammar) (a : ℕ) → Decides g a → T (decides? g a)
unfolding decides?
T-decides g a d = lt→ltb 1 (length (alternatives g a)) d

-- ---- a state, and zeros in the words of its slot that it does not use
pub record LaidOut (g : Grammar) (c : List ℕ) (s : ℕ) : Type 0 where
  pub slot : Slot g c s
  pub steps : Zeros c (suc (step_at s g.kinds)) (configs_at s)
  pub behind : Zeros c (configs_at s + length (kept_words c s)) (slot_at (suc s))

module _ (g : Grammar) (c : List ℕ) (s : ℕ) (within : s < slots (length c)) where
  kept-end : configs_at s + length (kept_words c s) ≡ configs_at s + config_words * kept_count c s
  kept-end = ap (λ (n : ℕ). configs_at s + n) (kept-long c s within)

  -- as many configurations as the slot says
  its-count : word c (count_at s) ≤ max_kept → Keeps (kept_words c s) → word c (count_at s) ≡ length (kept_in c s)
  unfolding kept_in kept_count
  its-count h k = omega (arith, kept-long c s within, ap length k.packed, length-pack_all (kept_in c s))

  pub slot-T : T (slot? g c s) → LaidOut g c s
  unfolding slot? kept_in
  slot-T t =
      let behind = zeros? c (configs_at s + config_words * kept_count c s) (slot_at (suc s)) in
      let steps = zeros? c (suc (step_at s g.kinds)) (configs_at s) in
      let configs = kept? (kept_words c s) in
      let p = and_T (decides? g (decision c s)) (leb 1 (word c (count_at s)) && (leb (word c (count_at s)) max_kept && (configs && (steps && behind)))) t in
      let o = and_T (leb 1 (word c (count_at s))) (leb (word c (count_at s)) max_kept && (configs && (steps && behind))) p.1 in
      let q = and_T (leb (word c (count_at s)) max_kept) (configs && (steps && behind)) o.1 in
      let r = and_T configs (steps && behind) q.1 in
      let z = and_T steps behind r.1 in
      let some = leb→le 1 (word c (count_at s)) o.0 in
      let few = leb→le (word c (count_at s)) max_kept q.0 in
      let keeps = kept-T (kept_words c s) r.0 in
      let n = its-count few keeps in
      record {
        slot = record {
          decides = decides-T g (decision c s) p.0;
          counted = n;
          some = omega arith;
          few = omega arith;
          packed = keeps.packed;
          fitting = keeps.fitting;
          ascending = keeps.ascending;
        };
        steps = zeros-T c (suc (step_at s g.kinds)) (configs_at s) z.0;
        behind = rw kept-end (zeros-T c (configs_at s + config_words * kept_count c s) (slot_at (suc s)) z.1);
      }

  pub T-slot : LaidOut g c s → T (slot? g c s)
  unfolding slot? kept_in
  T-slot h =
      let behind = zeros? c (configs_at s + config_words * kept_count c s) (slot_at (suc s)) in
      let steps = zeros? c (suc (step_at s g.kinds)) (configs_at s) in
      let configs = kept? (kept_words c s) in
      let x = h.slot in
      let empty : Zeros c (configs_at s + config_words * kept_count c s) (slot_at (suc s)) = subst (λ (i : ℕ). Zeros c i (slot_at (suc s))) kept-end h.behind in
      T_and (decides? g (decision c s)) (leb 1 (word c (count_at s)) && (leb (word c (count_at s)) max_kept && (configs && (steps && behind))))
      (T-decides g (decision c s) x.decides)
      (T_and (leb 1 (word c (count_at s))) (leb (word c (count_at s)) max_kept && (configs && (steps && behind)))
      (le→leb 1 (word c (count_at s)) (omega (arith, x.counted, x.some)))
      (T_and (leb (word c (count_at s)) max_kept) (configs && (steps && behind)) (le→leb (word c (count_at s)) max_kept (omega (arith, x.counted, x.few)))
      (T_and configs (steps && behind) (T-kept (kept_words c s) (record { packed = x.packed; fitting = x.fitting; ascending = x.ascending }))
      (T_and steps behind (T-zeros c (suc (step_at s g.kinds)) (configs_at s) h.steps)
      (T-zeros c (configs_at s + config_words * kept_count c s) (slot_at (suc s)) empty)))))
