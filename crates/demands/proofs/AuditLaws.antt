-- THE CONTRACT OF `audit` says exactly what specs/Delivered does; and a begun cache gets a yes.
use mathlib.Core.Path.{◌≡◌, refl, sym, subst, ap, ◌∙◌}
use mathlib.Core.Logic.{◌↔◌}
use mathlib.Core.Bool.{Bool, true, false, cond}
use mathlib.Core.List.{List}
use Prim.Native.Nat.{ℕ, ◌≤◌}
use native.Mathlib.Omega.{arith}
use lib.Dec.{ltb}
use lib.ListN.{length}
use borrow.Author.Tests.{ltb-true, ltb-false, lt-ltb, le-ltb}
use Rattle.std.specs.Prelude.{Ok}
use Rattle.base.proofs.Booleans.{T→true, true→T, false→¬T, ¬T→false}
use Rattle.number.specs.Refusals.{refusal_number, refusal_place}
use Rattle.grammar.specs.Decode.{Rules, Mark, got, decode}
use Rattle.grammar.specs.Grammar.{compile}
use Rattle.soundness.specs.Check.{check_of, CheckDid}
use Rattle.soundness.proofs.VerdictLaws.{zero-sound}
use Rattle.derivation.specs.Gate.{Gate, at_gate}
use Rattle.derivation.proofs.GateLaws.{Checked, refuses, sound, sound-gate, refusal-early}
use Rattle.words.specs.Layout.{min_words}
use Rattle.words.specs.Begin.{Begun, BegunFor, begun?, BeginDid, begin_words}
use Rattle.words.proofs.BeginMeans.{begins}
use Rattle.words.proofs.StandingLaws.{begun-for, for-begun}
use Rattle.cache.specs.Coherent.{Coherent}
use Rattle.cache.proofs.SuitLaws.{decode-suits}
use Rattle.cache.proofs.BeginLaws.{begun-coherent}
use Rattle.auditing.specs.Coherence.{coherent?}
use Rattle.auditing.proofs.CoherentLaws.{coherent-T, T-coherent}
use Rattle.audit.specs.Auditing.{Audited, audited, from19, from12, audit_of}
use Rattle.audit.specs.Contract.{AuditDid}
use Rattle.demands.proofs.CheckedLaws.{shut-is, open_is}
use Rattle.demands.specs.Delivered.{Audits, refused, short, foreign, incoherent, coherent}

module _ (bytes c : List ℕ) where
  -- in short: an answer that specs/Delivered allows
  abbrev Is : Audited → Type 0
  Is x = Audits bytes c x.number x.place

  abbrev behind : Gate → Audited
  behind x = at_gate audited (λ g. from12 g bytes c) x

  -- ---- EVERY AUDIT HAS AN ANSWER, the one of `audit_of`
  module _ (r : Rules) (m : Mark) (d : decode bytes ≡ got r m) (v : check_of bytes ≡ Ok tt) where
    checked : CheckDid bytes 0 0
    checked = (rw v, rw v)

    judged : min_words ≤ length c → BegunFor bytes c → Is (from19 (compile r) bytes c)
    unfolding from19
    judged l b = go (coherent? (compile r) bytes c) refl
      where
        go : (x : Bool) → coherent? (compile r) bytes c ≡ x → Is (cond x (audited 0 0) (audited 19 0))
        go true e = coherent r m d 0 checked (coherent-T (compile r) bytes (decode-suits bytes r m d) c (true→T (coherent? (compile r) bytes c) e))
        go false e =
            incoherent r m d 0 checked l b
            (λ k. false→¬T (coherent? (compile r) bytes c) e (T-coherent (compile r) bytes (decode-suits bytes r m d) c k))

    stood : Is (from12 (compile r) bytes c)
    unfolding from12
    stood = go (ltb (length c) min_words) refl (begun? bytes c) refl
      where
        go : (x : Bool) → ltb (length c) min_words ≡ x → (y : Bool) → begun? bytes c ≡ y
            → Is (cond x (audited 12 0) (cond y (from19 (compile r) bytes c) (audited 13 0)))
        go true e y f = short 0 checked (ltb-true (length c) min_words e)
        go false e false f = foreign 0 checked (ltb-false (length c) min_words e) (λ b. false→¬T (begun? bytes c) f (for-begun bytes c b))
        go false e true f = judged (ltb-false (length c) min_words e) (begun-for bytes c (true→T (begun? bytes c) f))

  audit-is : Is (audit_of bytes c)
  unfolding audit_of
  audit-is = go (sound-gate bytes)
    where
      go : {x : Gate} → Checked bytes x → Is (behind x)
      go (refuses r e) = refused (refusal_number r) (refusal_place r) (rw e, rw e) (λ z. let h = (refusal-early r).0.some in omega arith)
      go (sound r m d v) = stood r m d v

  -- ---- AND NO OTHER
  refused-is : (n p : ℕ) → CheckDid bytes n p → ¬ (n ≡ 0) → audited n p ≡ audit_of bytes c
  unfolding audit_of
  refused-is n p k z = shut-is bytes audited (λ g. from12 g bytes c) n p k z

  past-sound : (p : ℕ) → CheckDid bytes 0 p → (r : Rules) × (m : Mark) × (decode bytes ≡ got r m) × (from12 (compile r) bytes c ≡ audit_of bytes c)
  unfolding audit_of
  past-sound p k = open_is bytes audited (λ g. from12 g bytes c) p k

  -- behind 12 and 13 the words decide
  past-13 : (r : Rules) → min_words ≤ length c → BegunFor bytes c → from19 (compile r) bytes c ≡ from12 (compile r) bytes c
  unfolding from12
  past-13 r l b = rw (le-ltb (length c) min_words l, T→true (begun? bytes c) (for-begun bytes c b))

  -- the bytes say one grammar
  same-rules : (r r' : Rules) {m m' : Mark} → decode bytes ≡ got r m → decode bytes ≡ got r' m' → r ≡ r'
  same-rules r r' d d' = cc

  only : {n p : ℕ} → Audits bytes c n p → audited n p ≡ audit_of bytes c
  unfolding from12 from19
  only (refused n p k z) = refused-is n p k z
  only (short p k l) =
      let (r, m, d, e) = past-sound p k in
      ap (λ (b : Bool). cond b (audited 12 0) (cond (begun? bytes c) (from19 (compile r) bytes c) (audited 13 0))) (sym (lt-ltb (length c) min_words l)) ∙ e
  only (foreign p k l n) =
      let (r, m, d, e) = past-sound p k in
      let f : begun? bytes c ≡ false = ¬T→false (begun? bytes c) (λ t. n (begun-for bytes c t)) in
      let x : audited 13 0 ≡ from12 (compile r) bytes c = rw (le-ltb (length c) min_words l, f) refl in
      x ∙ e
  only (incoherent r m d p k l b n) =
      let (r', m', d', e) = past-sound p k in
      let q = same-rules r r' d d' in
      let f : coherent? (compile r) bytes c ≡ false
      = ¬T→false (coherent? (compile r) bytes c) (λ t. n (coherent-T (compile r) bytes (decode-suits bytes r m d) c t)) in
      let x : audited 19 0 ≡ from19 (compile r) bytes c = rw f refl in
      x ∙ past-13 r l b ∙ ap (λ (s : Rules). from12 (compile s) bytes c) q ∙ e
  only (coherent r m d p k h) =
      let (r', m', d', e) = past-sound p k in
      let q = same-rules r r' d d' in
      let f : coherent? (compile r) bytes c ≡ true = T→true (coherent? (compile r) bytes c) (T-coherent (compile r) bytes (decode-suits bytes r m d) c h) in
      let x : audited 0 0 ≡ from19 (compile r) bytes c = rw f refl in
      x ∙ past-13 r h.long h.begun-for ∙ ap (λ (s : Rules). from12 (compile s) bytes c) q ∙ e

  -- THE CONTRACT OF `audit` says exactly what specs/Delivered does
  pub audit-iff : (number place : ℕ) → AuditDid bytes c number place ↔ Audits bytes c number place
  audit-iff number place = (λ e. subst Is (sym e) audit-is, only)

-- ---- a yes
-- what it tells: the bytes are a sound grammar, and the words are coherent for it
pub record Yes (bytes c : List ℕ) : Type 0 where
  pub rules : Rules
  pub mark : Mark
  pub decoded : decode bytes ≡ got rules mark
  pub sound : check_of bytes ≡ Ok tt
  pub words : Coherent (compile rules) bytes c

pub yes-means : (bytes c : List ℕ) (place : ℕ) → AuditDid bytes c 0 place → Yes bytes c
yes-means bytes c place a = go ((audit-iff bytes c 0 place).0 a) refl
  where
    go : {n p : ℕ} → Audits bytes c n p → n ≡ 0 → Yes bytes c
    go (refused n p k z) e = absurd (z e)
    go (short p k l) e = absurd (omega arith)
    go (foreign p k l n) e = absurd (omega arith)
    go (incoherent r m d p k l b n) e = absurd (omega arith)
    go (coherent r m d p k h) e = record { rules = r; mark = m; decoded = d; sound = zero-sound bytes p k; words = h }

pub means-yes : (bytes c : List ℕ) → Yes bytes c → AuditDid bytes c 0 0
means-yes bytes c y = (audit-iff bytes c 0 0).1 (coherent y.rules y.mark y.decoded 0 (rw y.sound, rw y.sound) y.words)

-- A BEGUN CACHE GETS ONE
pub begun-yes : (bytes c₀ : List ℕ) (place : ℕ) (c : List ℕ) → BeginDid bytes c₀ 0 place c → Yes bytes c
begun-yes bytes c₀ place c d =
    let x = begins bytes c₀ (sym (ap (λ (k : Begun). k.number) d)) in
    let w : c ≡ begin_words bytes (length c₀) = ap (λ (k : Begun). k.words) d ∙ x.words in
    let h = begun-coherent (compile x.rules) bytes (decode-suits bytes x.rules x.mark x.decoded) (length c₀) x.long in
    record {
      rules = x.rules;
      mark = x.mark;
      decoded = x.decoded;
      sound = x.sound;
      words = subst (λ (k : List ℕ). Coherent (compile x.rules) bytes k) (sym w) h;
    }
