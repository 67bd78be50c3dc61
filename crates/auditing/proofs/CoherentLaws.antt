-- THE TEST DECIDES COHERENCE, for words of any length that hold any numbers.
use mathlib.Core.Bool.{◌&&◌}
use mathlib.Core.List.{List}
use Prim.Native.Nat.{ℕ, suc, ◌+◌, ◌≤◌, ◌<◌}
use native.Mathlib.Omega.{arith}
use lib.Dec.{T, leb, leb→le, le→leb}
use lib.ListN.{length}
use Rattle.base.specs.Search.{all_from}
use Rattle.base.proofs.AllLaws.{all-T, T-all}
use Rattle.base.proofs.Booleans.{and_T, T_and}
use Rattle.grammar.specs.Grammar.{Grammar}
use Rattle.words.specs.Layout.{min_words, fixed_words, slots, length_at, held_at, starts_at, bytes_at, slot_at}
use Rattle.words.specs.Words.{held, kept_in}
use Rattle.words.specs.Begin.{pack_bytes, begun?}
use Rattle.cache.specs.Coherent.{Coherent}
use Rattle.words.proofs.StandingLaws.{begun-for, for-begun}
use Rattle.cache.proofs.SuitLaws.{Suits}
use Rattle.cache.proofs.FieldLaws.{says-given, kept-packable}
use Rattle.auditing.specs.Coherence.{zeros?, fixed?, slot?, laid_out?, single?, recorded?, right?, coherent?}
use Rattle.auditing.proofs.ZeroLaws.{Zeros, zeros-T, T-zeros}
use Rattle.auditing.proofs.SlotLaws.{LaidOut, slot-T, T-slot}
use Rattle.auditing.proofs.SingleLaws.{single-T, T-single}
use Rattle.auditing.proofs.RecordLaws.{Recorded, recorded-T, T-recorded}
use Rattle.auditing.proofs.UnusedLaws.{Blank, unused-zero, zero-blank}

-- ---- the layout, with n words of grammar bytes
record Layout (g : Grammar) (n : ℕ) (c : List ℕ) : Type 0 where
  held_fits : held c ≤ slots (length c)
  front : Zeros c 0 length_at
  between : Zeros c (suc held_at) starts_at
  bytes-end : Zeros c (bytes_at + n) fixed_words
  behind : Zeros c (slot_at (held c)) (length c)
  laid_out : (s : ℕ) → s < held c → LaidOut g c s

module _ (g : Grammar) (n : ℕ) (c : List ℕ) where
  layout-T : T (laid_out? g n c) → Layout g n c
  unfolding laid_out? fixed?
  layout-T t =
      let all = all_from (slot? g c) 0 (held c) in
      let behind = zeros? c (slot_at (held c)) (length c) in
      let p = and_T (leb (held c) (slots (length c))) (fixed? n c && (behind && all)) t in
      let q = and_T (fixed? n c) (behind && all) p.1 in
      let r = and_T behind all q.1 in
      let x = and_T (zeros? c 0 length_at) (zeros? c (suc held_at) starts_at && zeros? c (bytes_at + n) fixed_words) q.0 in
      let y = and_T (zeros? c (suc held_at) starts_at) (zeros? c (bytes_at + n) fixed_words) x.1 in
      let fits = leb→le (held c) (slots (length c)) p.0 in
      record {
        held_fits = fits;
        front = zeros-T c 0 length_at x.0;
        between = zeros-T c (suc held_at) starts_at y.0;
        bytes-end = zeros-T c (bytes_at + n) fixed_words y.1;
        behind = zeros-T c (slot_at (held c)) (length c) r.0;
        laid_out = λ s h. slot-T g c s (omega arith) (all-T (slot? g c) 0 (held c) r.1 s (omega arith) (omega arith));
      }

  T-layout : Layout g n c → T (laid_out? g n c)
  unfolding laid_out? fixed?
  T-layout h =
      let all = all_from (slot? g c) 0 (held c) in
      let behind = zeros? c (slot_at (held c)) (length c) in
      let fits = h.held_fits in
      T_and (leb (held c) (slots (length c))) (fixed? n c && (behind && all)) (le→leb (held c) (slots (length c)) fits)
      (T_and (fixed? n c) (behind && all)
      (T_and (zeros? c 0 length_at) (zeros? c (suc held_at) starts_at && zeros? c (bytes_at + n) fixed_words) (T-zeros c 0 length_at h.front)
      (T_and (zeros? c (suc held_at) starts_at) (zeros? c (bytes_at + n) fixed_words) (T-zeros c (suc held_at) starts_at h.between)
      (T-zeros c (bytes_at + n) fixed_words h.bytes-end)))
      (T_and behind all (T-zeros c (slot_at (held c)) (length c) h.behind)
      (T-all (slot? g c) 0 (held c) (λ s _ l. T-slot g c s (omega arith) (h.laid_out s (omega arith))))))

-- ---- the layout and the records are what coherence asks
module _ (g : Grammar) (bytes : List ℕ) (suits : Suits g bytes) (c : List ℕ) where
  abbrev packed : ℕ
  packed = length (pack_bytes bytes)

  layout-blank : Layout g packed c → Recorded g c → Blank g bytes c
  layout-blank l r = record {
    front = l.front;
    between = l.between;
    starts = λ a h. (r.starts a h).none;
    bytes-end = l.bytes-end;
    steps = λ s h. (l.laid_out s h).steps;
    configs = λ s h. (l.laid_out s h).behind;
    behind = l.behind;
  }

  coherent : min_words ≤ length c → T (begun? bytes c) → Layout g packed c → T (single? c) → Recorded g c → Coherent g bytes c
  coherent long begun l single r = record {
    long = long;
    begun-for = begun-for bytes c begun;
    held_fits = l.held_fits;
    slot = λ s h. (l.laid_out s h).slot;
    unused = unused-zero g bytes c (layout-blank l r);
    single = single-T c single;
    started = λ a d n. (says-given (suits.starts a)).1 ((r.starts a (suits.decisions a d)).right d n);
    stepped = λ s t h l n. (says-given (suits.steps (kept_in c s) (kept-packable c s) t)).1 (r.steps s t h l n);
  }

  coherent-layout : Coherent g bytes c → Layout g packed c
  coherent-layout k =
      let b = zero-blank g bytes c suits k.unused in
      record {
        held_fits = k.held_fits;
        front = b.front;
        between = b.between;
        bytes-end = b.bytes-end;
        behind = b.behind;
        laid_out = λ s h. record { slot = k.slot s h; steps = b.steps s h; behind = b.configs s h };
      }

  coherent-recorded : Coherent g bytes c → Recorded g c
  coherent-recorded k =
      let b = zero-blank g bytes c suits k.unused in
      record {
        starts = λ a l. record { right = λ d n. (says-given (suits.starts a)).0 (k.started a d n); none = b.starts a l };
        steps = λ s t h l n. (says-given (suits.steps (kept_in c s) (kept-packable c s) t)).0 (k.stepped s t h l n);
      }

  -- ---- THE TWO LAWS
  pub coherent-T : T (coherent? g bytes c) → Coherent g bytes c
  unfolding coherent? right?
  coherent-T t =
      let p = and_T (leb min_words (length c)) (begun? bytes c && right? g packed c) t in
      let q = and_T (begun? bytes c) (right? g packed c) p.1 in
      let r = and_T (laid_out? g packed c) (single? c && recorded? g c) q.1 in
      let x = and_T (single? c) (recorded? g c) r.1 in
      let l = layout-T g packed c r.0 in
      coherent (leb→le min_words (length c) p.0) q.0 l x.0 (recorded-T g c suits.bounded (λ s h. (l.laid_out s h).slot.fitting) x.1)

  pub T-coherent : Coherent g bytes c → T (coherent? g bytes c)
  unfolding coherent? right?
  T-coherent k =
      T_and (leb min_words (length c)) (begun? bytes c && right? g packed c) (le→leb min_words (length c) k.long)
      (T_and (begun? bytes c) (right? g packed c) (for-begun bytes c k.begun-for)
      (T_and (laid_out? g packed c) (single? c && recorded? g c) (T-layout g packed c (coherent-layout k))
      (T_and (single? c) (recorded? g c) (T-single c k.single) (T-recorded g c (coherent-recorded k)))))
