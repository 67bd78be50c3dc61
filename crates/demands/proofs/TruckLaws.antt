-- A TRUCK'S NOTES IN ONE CALL: a batch does what quick calls made singly do, and so demand 3 holds of lists in which batches stand.
use mathlib.Core.Path.{◌≡◌, refl, sym, subst, ap, ◌∙◌}
use mathlib.Core.Logic.{◌↔◌}
use mathlib.Core.Bool.{Bool, true, false, cond}
use mathlib.Core.List.{List, [], ◌∷◌, ◌++◌}
use Prim.Native.Nat.{ℕ, ◌/◌}
use native.Mathlib.Omega.{arith}
use lib.Dec.{eqb}
use lib.ListN.{length}
use borrow.Author.Tests.{eqb-true, eqb-false}
use Rattle.std.specs.Prelude.{Ok}
use Rattle.base.proofs.Booleans.{true→T}
use Rattle.number.specs.Refusals.{refusal_number, refusal_place}
use Rattle.grammar.specs.Grammar.{Grammar, compile}
use Rattle.soundness.specs.Check.{check_of, CheckDid}
use Rattle.derivation.specs.Gate.{Gate, at_gate}
use Rattle.derivation.specs.Plain.{Answer, answer}
use Rattle.derivation.proofs.GateLaws.{Checked, refuses, sound, sound-gate, refusal-early}
use Rattle.adaptive.specs.Quick.{Reply}
use Rattle.adaptive.specs.Calls.{Call, quick, in_turn, last_words}
use Rattle.batch.specs.Batches.{Batched, batched, calls_of, answers_of, rows_of, told, read_of, read_all, Fits, fits?, from18, batch_reading}
use Rattle.batch.specs.Contract.{BatchDid}
use Rattle.batch.proofs.FitLaws.{fits-means, part-is, fits-pass, fits-fails, none-fits}
use Rattle.demands.proofs.CheckedLaws.{shut-is, open_is}
use Rattle.demands.specs.Demand3.{Both, Session, calls, last_cache, AllSame}
use Rattle.demands.specs.Trucks.{Singly, none, next, Batches, refused, bad, read, AllPlainly, Truck, unloaded, TruckDid, Load, note, truck, Worked}
use Rattle.demands.specs.Trucks.{WasRead, quick_answers, plain_answers, IsMadeOf, MadeOf, one, many, no_one, Trucks}
use Rattle.demands.proofs.Demand1Laws.{demand1}
use Rattle.demands.proofs.Demand3Laws.{demand3}

-- ---- quick calls made singly
module _ (bytes : List ℕ) where
  -- they reply what quick readings in turn give
  pub singly-is : {c : List ℕ} {ks : List Call} {xs : List Reply} → Singly bytes c ks xs → xs ≡ in_turn (quick bytes) c ks
  unfolding in_turn
  singly-is none = refl
  singly-is (next {ks = ks} {x = x} {xs = xs} d h) =
      subst (λ (y : Reply). x ∷ xs ≡ y ∷ in_turn (quick bytes) y.words ks) d (ap (λ (l : List Reply). x ∷ l) (singly-is h))

  -- and calls made singly reply that
  pub in-turn : (ks : List Call) (c : List ℕ) → Singly bytes c ks (in_turn (quick bytes) c ks)
  unfolding in_turn
  in-turn [] c = none
  in-turn (k ∷ ks) c = next refl (in-turn ks (quick bytes c k).words)

-- ---- a batch
module _ (bytes tokens lengths answers row : List ℕ) (space : ℕ) (cache : List ℕ) where
  -- in short: an answer that specs/Trucks allows
  abbrev Is : Batched → Type 0
  Is x = Batches bytes tokens lengths answers row space cache x

  -- what comes behind 1 to 7, the whole of it, and what the gate gives
  abbrev onward : Batched
  onward = from18 bytes tokens lengths answers row space cache

  abbrev whole : Batched
  whole = batch_reading bytes tokens lengths answers row space cache

  abbrev behind : Gate → Batched
  behind x = at_gate (λ n p. batched n p answers row cache) (λ g. onward) x

  -- EVERY BATCH HAS AN ANSWER, the one of `batch_reading`
  pub batch-is : Batches bytes tokens lengths answers row space cache (batch_reading bytes tokens lengths answers row space cache)
  unfolding batch_reading from18 read_all
  batch-is = go (sound-gate bytes)
    where
      fitting : check_of bytes ≡ Ok tt → (b : Bool) → fits? tokens lengths answers row ≡ b
          → Is (cond b (read_all bytes tokens lengths row space cache) (batched 18 0 answers row cache))
      fitting v true e =
          let part = length row / length lengths in
          let ks = calls_of space part lengths tokens row in
          let f = fits-means tokens lengths answers row (true→T (fits? tokens lengths answers row) e) in
          read 0 (rw v, rw v) part f (in_turn (quick bytes) cache ks) (in-turn bytes ks cache)
      fitting v false e = bad 0 (rw v, rw v) (fits-fails tokens lengths answers row e)

      go : {x : Gate} → Checked bytes x → Is (behind x)
      go (refuses r e) = refused (refusal_number r) (refusal_place r) (rw e, rw e) (λ z. let h = (refusal-early r).0.some in omega arith)
      go (sound r m d v) = fitting v (fits? tokens lengths answers row) refl

  refused-is : (n p : ℕ) → CheckDid bytes n p → ¬ (n ≡ 0) → batched n p answers row cache ≡ whole
  unfolding batch_reading
  refused-is n p k z = shut-is bytes (λ n p. batched n p answers row cache) (λ g. onward) n p k z

  past-sound : (p : ℕ) → CheckDid bytes 0 p → onward ≡ whole
  unfolding batch_reading
  past-sound p k = (open_is bytes (λ n p. batched n p answers row cache) (λ g. onward) p k).3

  -- AND NO OTHER
  only : {x : Batched} → Is x → x ≡ whole
  unfolding from18 read_all
  only (refused n p c z) = refused-is n p c z
  only (bad p c h) = rw (none-fits tokens lengths answers row h) at (past-sound p c)
  only (read p c part f xs h) =
      let e : read_all bytes tokens lengths row space cache ≡ whole = rw (fits-pass tokens lengths answers row part f) at (past-sound p c) in
      ap (read_of cache) (singly-is bytes h) ∙ rw (part-is tokens lengths answers row part f) e

-- THE CONTRACT OF `batch` says exactly what specs/Trucks does
pub batch-iff : (bytes tokens lengths answers row : List ℕ) (space : ℕ) (cache : List ℕ) (number place : ℕ) (answers' row' cache' : List ℕ)
    → BatchDid bytes tokens lengths answers row space cache number place answers' row' cache'
    ↔ Batches bytes tokens lengths answers row space cache (batched number place answers' row' cache')
batch-iff bytes tokens lengths answers row space cache number place answers' row' cache' =
    ((λ e. rw e (batch-is bytes tokens lengths answers row space cache)), only bytes tokens lengths answers row space cache)

-- ---- the readings that a batch is made of
-- calls made singly and plain calls beside them, as one list
record Paired (bytes c : List ℕ) (ks : List Call) (xs : List Reply) (ps : List Answer) : Type 0 where
  boths : List Both
  session : Session bytes c boths
  lent : calls boths ≡ ks
  quickly : quick_answers boths ≡ told xs
  words : last_cache c boths ≡ last_words c xs
  plainly : plain_answers boths ≡ ps

paired : {bytes c : List ℕ} {ks : List Call} {xs : List Reply} {ps : List Answer} → Singly bytes c ks xs → AllPlainly bytes ks ps
    → Paired bytes c ks xs ps
unfolding told last_words
paired Singly.none AllPlainly.none = record { boths = []; session = tt; lent = refl; quickly = refl; words = refl; plainly = refl }
paired (Singly.next {k = k} {x = x} q h) (AllPlainly.next {a = a} p i) =
    let y = paired h i in
    record {
      boths = record { lent = k; quickly = x.answer; cache = x.words; plainly = a } ∷ y.boths;
      session = (record { quick = q; plain = p }, y.session);
      lent = ap (λ (l : List Call). k ∷ l) y.lent;
      quickly = ap (λ (l : List Answer). x.answer ∷ l) y.quickly;
      words = y.words;
      plainly = ap (λ (l : List Answer). a ∷ l) y.plainly;
    }

module _ (bytes c : List ℕ) (t : Truck) (d : TruckDid bytes c t) where
  -- a batch whose notes were read is such a list
  unloads : WasRead t → (ys : List Both) × IsMadeOf c t ys × Session bytes c ys
  unloads u =
      go
      ((batch-iff bytes t.tokens t.lengths t.answers t.row t.space c t.number t.place t.answered t.rows t.cache).0 d.batch)
      refl
    where
      part-so : (part : ℕ) → Fits t.tokens t.lengths t.answers t.row part → part ≡ length t.row / length t.lengths
      part-so part f = part-is t.tokens t.lengths t.answers t.row part f

      go : {x : Batched} → Batches bytes t.tokens t.lengths t.answers t.row t.space c x
          → x ≡ batched t.number t.place t.answered t.rows t.cache → (ys : List Both) × IsMadeOf c t ys × Session bytes c ys
      go (refused n p v z) e = absurd (z (ap (λ (x : Batched). x.number) e ∙ u))
      go (bad p v n) e = absurd (omega (arith, u, ap (λ (x : Batched). x.number) e))
      go (read p v part f xs h) e =
          let q : part ≡ t.part = part-so part f ∙ sym (part-so t.part (d.fits u)) in
          let h' : Singly bytes c (unloaded t) xs = rw q at h in
          let y = paired h' (d.plain u) in (
            y.boths,
            record {
              lent = y.lent;
              answers = sym (ap (λ (x : Batched). x.answers) e) ∙ rw y.quickly;
              rows = sym (ap (λ (x : Batched). x.row) e) ∙ rw y.quickly;
              words = sym (ap (λ (x : Batched). x.words) e) ∙ sym y.words;
              plainly = sym y.plainly;
            },
            y.session,
          )

-- ---- lists in which batches stand
-- one list behind another
session-append : (bytes : List ℕ) (xs ys : List Both) (c : List ℕ) → Session bytes c xs → Session bytes (last_cache c xs) ys
    → Session bytes c (xs ++ ys)
session-append bytes [] ys c d e = e
session-append bytes (x ∷ xs) ys c (d, ds) e = (d, session-append bytes xs ys x.cache ds e)

-- a list that did what its contracts say is made of readings that did
pub made : (bytes : List ℕ) (ls : List Load) (c : List ℕ) → Worked bytes c ls → (xs : List Both) × MadeOf c ls xs × Session bytes c xs
made bytes [] c w = ([], MadeOf.none, tt)
made bytes (note x ∷ ls) c (d, w) = let (xs, m, s) = made bytes ls x.cache w in (x ∷ xs, one m, (d, s))
made bytes (truck t ∷ ls) c (d, w) = let (xs, m, s) = made bytes ls t.cache w in go (eqb t.number 0) refl xs m s
  where
    go : (b : Bool) → eqb t.number 0 ≡ b → (xs : List Both) → MadeOf t.cache ls xs → Session bytes t.cache xs
        → (xs : List Both) × MadeOf c (truck t ∷ ls) xs × Session bytes c xs
    go true e xs m s =
        let u = eqb-true t.number 0 e in
        let (ys, i, z) = unloads bytes c t d u in
        (ys ++ xs, many u i m, session-append bytes ys xs c z (rw (← i.words) s))
    go false e xs m s =
        let n = eqb-false t.number 0 e in
        let (a, r, q) = demand1.batch bytes t.tokens t.lengths t.answers t.row t.space c t.number t.place t.answered t.rows
        t.cache d.batch n in
        (xs, no_one n q m, subst (λ (c : List ℕ). Session bytes c xs) q s)

-- readings that agree have the same answers
same-answers : (g : Grammar) (xs : List Both) (c : List ℕ) (earlier : List Call) → AllSame g c earlier xs → quick_answers xs ≡ plain_answers xs
same-answers g [] c earlier h = refl
same-answers g (x ∷ xs) c earlier (h, hs) =
    let z : x.quickly ≡ x.plainly = λ i. answer (h.number i) (h.place i) (h.count i) (h.row i) in
    let e = same-answers g xs x.cache (x.lent ∷ earlier) hs in
    cc

-- A TRUCK'S NOTES IN ONE CALL
pub trucks : Trucks
trucks = record {
  singly = batch-iff;
  audited = λ bytes c place a.
      let (r, m, e, h) = demand3.audited bytes c place a in
      (r, m, e, λ ls w. let (xs, k, s) = made bytes ls c w in (xs, k, s, h xs s));
  begun = λ bytes c₀ place c d.
      let (r, m, e, h) = demand3.begun bytes c₀ place c d in
      (r, m, e, λ ls w. let (xs, k, s) = made bytes ls c w in (xs, k, s, h xs s));
  as_plain = λ bytes c place a t d u.
      let (ys, i, s) = unloads bytes c t d u in
      let (r, m, e, h) = demand3.audited bytes c place a in
      let z = same-answers (compile r) ys c [] (h ys s).each ∙ sym i.plainly in
      record { answers = i.answers ∙ ap answers_of z; rows = i.rows ∙ ap rows_of z };
}
