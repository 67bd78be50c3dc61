-- Which byte decided. Until the last byte that is fetched has come, the bytes so far are the beginning of a grammar; and what they are refused for, if
-- anything, depends on no byte behind it.
use mathlib.Core.Path.{◌≡◌, refl, sym, ap, subst, ◌∙◌}
use mathlib.Core.Logic.{inl, inr}
use mathlib.Core.List.{List, [], ◌++◌}
use Prim.Native.Nat.{ℕ, ◌≤◌, ◌<◌}
use native.Mathlib.Omega.{arith}
use native.Mathlib.Decide.{dec_le}
use lib.ListN.{length, take, drop, length-append, take-append-drop}
use lib.Seq.{length-take-le}
use Rattle.reader.specs.inside.Types.{Read, Cursor, Value, Refused}
use Rattle.reader.specs.inside.Types.{Refusal, Unfinished, Trailing}
use Rattle.number.specs.Fetching.{end_of, decided_by}
use Rattle.number.specs.Number.{Refuses}
use Rattle.number.proofs.NumberLaws.{one-refusal}
use Rattle.number.proofs.AgreeLaws.{OfNumber, Early, Cut}
use Rattle.grammar.specs.Decode.{Rules, Parsed, got, refused, decode}
use Rattle.grammar.specs.Grammar.{Limited}
use Rattle.reader.specs.Counting.{fetched_for, bytes_fetched, Within}
use Rattle.reader.specs.inside.Pass.{Out, whole_pass}
use Rattle.reader.proofs.PassLaws.{Same, pass_out, pass_same}
use Rattle.reader.proofs.CountLaws.{Final, pass-final, pass-counts}
use Rattle.reader.proofs.BesideLaws.{Ended, Ends, pass-ends}

-- ---- from the pass to the bytes: what it refuses, and what it counts
abbrev passed : List ℕ → Read
passed s = (whole_pass s []).answer

pass-refuses : (s : List ℕ) (f : Refusal) → decode s ≡ refused f → Refuses (passed s) f
pass-refuses s f e = subst (Same (whole_pass s []) (pass_out []) (λ r m. Limited r)) e (pass_same s [])

refused-by : (s : List ℕ) (f : Refusal) → Refuses (passed s) f → decode s ≡ refused f
refused-by s f h = go (decode s) (pass_same s [])
  where
    go : (d : Parsed Rules) → Same (whole_pass s []) (pass_out []) (λ r m. Limited r) d → d ≡ refused f
    go (got r m) q = absurd (subst (λ (o : Out). Refuses o.answer f) q.0 h)
    go (refused r) q = ap refused (one-refusal (passed s) q h)

count-fetched : (s : List ℕ) → (end_of (passed s)).count ≡ bytes_fetched s
count-fetched s = (pass-counts s [] {x = passed s} refl).count

fetched-inside : (s : List ℕ) → bytes_fetched s ≤ length s
fetched-inside s = let h = go (passed s) (pass-final s []) in omega (arith, count-fetched s)
  where
    go : (x : Read) → Final s x → (end_of x).count ≤ length s
    go (Value v c) h = omega (arith, ap (λ (c : Cursor). c.count) h)
    go (Refused f c) h = omega (arith, ap (λ (c : Cursor). c.count) h.0, h.1)

-- where a pass came to the end of the last nonterminal, its cursor stands there, and it is refused, if at all, with 5
ended-count : (s : List ℕ) (c : Cursor) (x : Read) → Ended s c x → end_of x ≡ c
ended-count s c x h = go (dec_le (length s) c.at)
  where
    go : Dec (length s ≤ c.at) → end_of x ≡ c
    go (yes l) = ap end_of (h.1 l).1
    go (no l) = ap end_of (h.0 (omega arith))

ended-trailing : (s : List ℕ) (c : Cursor) (x : Read) (f : Refusal) → Ended s c x → Refuses x f → Trailing c.at ≡ f
ended-trailing s c x f h q = go (dec_le (length s) c.at)
  where
    go : Dec (length s ≤ c.at) → Trailing c.at ≡ f
    go (yes l) = absurd (subst (λ (y : Read). Refuses y f) (h.1 l).1 q)
    go (no l) = subst (λ (y : Read). Refuses y f) (h.0 (omega arith)) q

module _ (w more : List ℕ) where
  -- bytes that end before the last one that is fetched are the beginning of a grammar
  ends-unfinished : length w < bytes_fetched (w ++ more) → (at : ℕ) × (decode w ≡ refused (Unfinished at))
  ends-unfinished h = go (pass-ends w more [])
    where
      go : Ends w more (whole_pass w []) (whole_pass (w ++ more) []) → (at : ℕ) × (decode w ≡ refused (Unfinished at))
      go (inl (inl (e, y))) =
          let q = ap (λ (o : Out). (end_of o.answer).count) e in
          absurd (omega (arith, q, count-fetched w, count-fetched (w ++ more), fetched-inside w))
      go (inl (inr (y, l))) = (y.0, refused-by w (Unfinished y.0) y.1)
      go (inr (c, k, i, j)) =
          let q = ap (λ (c : Cursor). c.count) (ended-count (w ++ more) c (passed (w ++ more)) j) in
          absurd (omega (arith, q, k.0, k.1, count-fetched (w ++ more)))

  module _ (f : Refusal) (h : Within f) where
    -- 2, 3 or 4 is given by the bytes up to the last one fetched, and whatever follows them
    refused-before : bytes_fetched (w ++ more) ≤ length w → decode (w ++ more) ≡ refused f → decode w ≡ refused f
    refused-before l e = go (pass-ends w more [])
      where
        r : Refuses (passed (w ++ more)) f
        r = pass-refuses (w ++ more) f e

        go : Ends w more (whole_pass w []) (whole_pass (w ++ more) []) → decode w ≡ refused f
        go (inl (inl (q, y))) = refused-by w f (subst (λ (o : Out). Refuses o.answer f) (sym q) r)
        go (inl (inr (y, k))) = absurd (omega (arith, count-fetched (w ++ more)))
        go (inr (c, k, i, j)) = absurd (subst Within (sym (ended-trailing (w ++ more) c (passed (w ++ more)) f j r)) h)

    refused-behind : decode w ≡ refused f → decode (w ++ more) ≡ refused f
    refused-behind e = go (pass-ends w more [])
      where
        r : Refuses (passed w) f
        r = pass-refuses w f e

        go : Ends w more (whole_pass w []) (whole_pass (w ++ more) []) → decode (w ++ more) ≡ refused f
        go (inl (inl (q, y))) = refused-by (w ++ more) f (subst (λ (o : Out). Refuses o.answer f) q r)
        go (inl (inr (y, k))) = absurd (subst Within (one-refusal (passed w) r y.1) h)
        go (inr (c, k, i, j)) = absurd (subst Within (sym (ended-trailing w c (passed w) f i r)) h)

  -- bytes behind which others follow end the last nonterminal, if no byte behind them was fetched; and so they do with any others behind them
  trailing-end : (at : ℕ) → bytes_fetched (w ++ more) ≤ length w → decode (w ++ more) ≡ refused (Trailing at)
      → (c : Cursor) × (c.at ≡ at) × Ended w c (passed w)
  trailing-end at l e = go (pass-ends w more [])
    where
      r : Refuses (passed (w ++ more)) (Trailing at)
      r = pass-refuses (w ++ more) (Trailing at) e

      early : (x : Read) → Early x → Refuses x (Trailing at) → ⊥
      early (Value v c) y q = q
      early (Refused f c) y q = subst OfNumber q y

      go : Ends w more (whole_pass w []) (whole_pass (w ++ more) []) → (c : Cursor) × (c.at ≡ at) × Ended w c (passed w)
      go (inl (inl (q, y))) = absurd (early (passed w) y (subst (λ (o : Out). Refuses o.answer (Trailing at)) (sym q) r))
      go (inl (inr (y, k))) = absurd (omega (arith, count-fetched (w ++ more)))
      go (inr (c, k, i, j)) = let q = ended-trailing (w ++ more) c (passed (w ++ more)) (Trailing at) j r in (c, cc, i)

  trailing-again : (c : Cursor) → length w ≤ c.at → Ended w c (passed w) → 1 ≤ length more → decode (w ++ more) ≡ refused (Trailing c.at)
  trailing-again c l i h = go (pass-ends w more [])
    where
      v : passed w ≡ Value (i.1 l).0 c
      v = (i.1 l).1

      n : c.at ≡ length w
      n = ap (λ (c : Cursor). c.at) (subst (Final w) v (pass-final w []))

      go : Ends w more (whole_pass w []) (whole_pass (w ++ more) []) → decode (w ++ more) ≡ refused (Trailing c.at)
      go (inl (inl (q, y))) =
          let z = subst (Final (w ++ more)) (sym (ap (λ (o : Out). o.answer) q) ∙ v) (pass-final (w ++ more) []) in
          absurd (omega (arith, n, ap (λ (c : Cursor). c.at) z, length-append w more))
      go (inl (inr (y, k))) = absurd (subst Cut v y).1
      go (inr (d, k, i', j)) =
          let q : d ≡ c = sym (ended-count w d (passed w) i') ∙ ap end_of v in
          let m = ap (λ (c : Cursor). c.at) q in
          let z = j.0 (omega (arith, m, n, length-append w more)) in
          refused-by (w ++ more) (Trailing c.at) (rw z (ap Trailing m))

-- ---- the three laws
module _ (s : List ℕ) where
  fetched-length : (j : ℕ) → j ≤ bytes_fetched s → length (take j s) ≡ j
  fetched-length j h = length-take-le j s (omega (arith, fetched-inside s))

  -- until the last byte that is fetched has come, nothing is decided: what came so far is the beginning of a grammar
  pub undecided : (j : ℕ) → j < bytes_fetched s → (at : ℕ) × (decode (take j s) ≡ refused (Unfinished at))
  undecided j h = ends-unfinished (take j s) (drop j s) (rw (take-append-drop j s, fetched-length j (omega arith)) h)

  -- 2, 3 and 4 do not depend on any byte behind the last one fetched
  pub decided : (more : List ℕ) (f : Refusal) → decode s ≡ refused f → Within f → decode (take (bytes_fetched s) s ++ more) ≡ refused f
  decided more f e h =
      let k : ℕ = bytes_fetched s in
      let q = take-append-drop k s in
      let l = fetched-length k (omega arith) in
      refused-behind (take k s) more f h (refused-before (take k s) (drop k s) f h (rw (q, l) (omega arith)) (rw q e))

  -- 5 depends on some byte following, not on which
  pub decided-trailing : (more : List ℕ) (at : ℕ) → decode s ≡ refused (Trailing at) → 1 ≤ length more
      → decode (take (bytes_fetched s) s ++ more) ≡ refused (Trailing at)
  unfolding bytes_fetched decided_by
  decided-trailing more at e h =
      let k : ℕ = bytes_fetched s in
      let q = take-append-drop k s in
      let l = fetched-length k (omega arith) in
      let n : bytes_fetched s ≡ at = ap (fetched_for s) e in
      go (omega (arith, l, n)) (trailing-end (take k s) (drop k s) at (rw (q, l) (omega arith)) (rw q e))
    where
      go : length (take (bytes_fetched s) s) ≡ at → (c : Cursor) × (c.at ≡ at) × Ended (take (bytes_fetched s) s) c (passed (take (bytes_fetched s) s))
          → decode (take (bytes_fetched s) s ++ more) ≡ refused (Trailing at)
      go l (c, z, i) = rw (← z) (trailing-again (take (bytes_fetched s) s) more c (omega (arith, l, z)) i h)
