-- Measures, beginnings, batches, audits and splittings told in numbers are the answers of the definitions.
use mathlib.Core.Path.{◌≡◌, ap}
use mathlib.Core.List.{List}
use Prim.Native.Nat.{ℕ}
use Rattle.std.specs.Prelude.{Ok, Err}
use Rattle.std.specs.Result.{result_unwrap_or}
use Rattle.measuring.specs.declared.measuring.Sizes.{Sizes}
use Rattle.measuring.specs.Measuring.{Measure, measure_number, measure_place, measure_kinds, measure_nonterminals, measure_places, figures, figures_of}
use Rattle.words.specs.Begin.{Begun, begun}
use Rattle.words.specs.Beginning.{Beginning, beginning_number, beginning_place, begun_by}
use Rattle.batch.specs.Batches.{Batched, batched}
use Rattle.batch.specs.Contract.{Batch, batch_number, batch_place, SpaceKept}
use Rattle.audit.specs.Auditing.{Audited, audited}
use Rattle.audit.specs.Contract.{Audit, audit_number, audit_place}
use Rattle.splitter.specs.declared.splitting.Splitting.{Splitting}
use Rattle.splitter.specs.Splitting.{SplitAnswer, split_answer}
use Rattle.splitter.specs.Contract.{splitting_number, splitting_place, splitting_count}

pub told-batch : (b : Batch) (answers row words space space' : List ℕ) {n p : ℕ} {x : Batched} → n ≡ batch_number b → p ≡ batch_place b
    → (batched (batch_number b) (batch_place b) answers row words ≡ x) × SpaceKept (batch_number b) space space'
    → (batched n p answers row words ≡ x) × SpaceKept n space space'
told-batch b answers row words space space' e f h = rw (e, f) h

pub told-audit : (a : Audit) {n p : ℕ} {x : Audited} → n ≡ audit_number a → p ≡ audit_place a → audited (audit_number a) (audit_place a) ≡ x
    → audited n p ≡ x
told-audit a e f h = rw (e, f) h

pub told-begun : (b : Beginning) (c : List ℕ) {n p : ℕ} {x : Begun} → n ≡ beginning_number b → p ≡ beginning_place b → begun_by b c ≡ x
    → begun n p c ≡ x
told-begun b c e f h = rw (e, f) h

-- three zeros where the grammar is refused
pub told-sizes : (m : Measure) {s : Sizes} → s ≡ result_unwrap_or m (record { kinds = 0; nonterminals = 0; places = 0 })
    → (s.kinds ≡ measure_kinds m) × (s.nonterminals ≡ measure_nonterminals m) × (s.places ≡ measure_places m)
told-sizes (Ok x) e = (ap (λ (z : Sizes). z.kinds) e, ap (λ (z : Sizes). z.nonterminals) e, ap (λ (z : Sizes). z.places) e)
told-sizes (Err x) e = (ap (λ (z : Sizes). z.kinds) e, ap (λ (z : Sizes). z.nonterminals) e, ap (λ (z : Sizes). z.places) e)

pub told-measure : (m : Measure) {n p t k q : ℕ} {x : Measure} → n ≡ measure_number m → p ≡ measure_place m → t ≡ measure_kinds m
    → k ≡ measure_nonterminals m → q ≡ measure_places m → m ≡ x → figures n p t k q ≡ figures_of x
told-measure m a b c d e h = rw (a, b, c, d, e, h)

pub told-split : (r : Splitting) (row : List ℕ) {n p c : ℕ} {x : SplitAnswer} → n ≡ splitting_number r → p ≡ splitting_place r → c ≡ splitting_count r
    → split_answer (splitting_number r) (splitting_place r) (splitting_count r) row ≡ x
    → split_answer n p c row ≡ x
told-split r row e f g h = rw (e, f, g) h
