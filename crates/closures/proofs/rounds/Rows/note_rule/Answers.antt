-- The goals of `closures::rounds::Rows::note_rule` that are not found.
use native.Mathlib.Omega.{arith}
use native.Mathlib.Numerals.{add-one}
use Prim.Native.Nat.{◌+◌, ◌-◌}
use mathlib.Core.Path.{◌≡◌, ◌∙◌}
use lib.ListN.{length, length-set}
use Rattle.std.proofs.Math.Nat.{le-max_left, le-max_right, max-le}
use Rattle.grammar.specs.inside.Tables.{firsts_at, rule_at}
use Rattle.closures.proofs.NoteSteps.{rule-from, noted-skip, noted-begin, noted_more, noted-done, places-many, place-is}
use Rattle.closures.proofs.rounds.Rows.note_rule.Goals as goal

pub returns-then-has : goal.returns-then-has
returns-then-has c =
    (c.requires.used, c.requires.needs-long, c.requires.owners-long, noted-skip _ _ _ _ _ _ _ _ c.requires.noted c.has.ensures c.if-has.true)

pub loop-k-init : goal.loop-k-init
loop-k-init c =
    let from = rule-from c.args.tables.now c.args.a in
    let many = places-many _ c.requires.fits _ c.requires.named _ c.first_places-places.ensures in
    let o = c.requires.fits.ordered _ c.requires.named in
    let w = c.requires.fits.within _ c.requires.named in
    let e : firsts_at + (c.rule_at-start.result - 256 + 0) ≡ rule_at c.args.tables.now c.args.a = omega (arith, c.rule_at-start.ensures) in
    (c.requires.used, omega (arith, c.rule_at-start.ensures), c.requires.needs-long, c.requires.owners-long, noted-begin _ _ _ _ _ _ _ _ c.requires.noted e)

pub loop-k-preserved : goal.loop-k-preserved
loop-k-preserved c =
    let (u, s, n, m, h) = c.loop-k.invariant in
    let from = rule-from c.args.tables.now c.args.a in
    let many = places-many _ c.requires.fits _ c.requires.named _ c.first_places-places.ensures in
    let o = c.requires.fits.ordered _ c.requires.named in
    let k = c.rule_at-start.result - 256 + c.loop-k.k in
    let z : c.rule_at-start.result - 256 + (c.loop-k.k + 1) ≡ k + 1 = omega arith in
    let at : rule_at c.args.tables.now c.args.a + c.loop-k.k ≡ firsts_at + k = omega (arith, c.rule_at-start.ensures) in
    let p = place-is _ c.requires.fits _ c.requires.named _ c.first_places-places.ensures c.loop-k.k c.loop-k-test.true in (
      u,
      s,
      simp length-set n,
      simp length-set m,
      rw z (noted_more _ _ _ _ _ _ _ _ h _ _ _ c.requires.named (omega arith) (omega arith) (omega (arith, at), omega (arith, at, many))
          (rw at at (c.from.ensures ∙ p)) c.need_from.ensures c.with.ensures),
    )

pub returns : goal.returns
returns c =
    let (u, s, n, m, h) = c.loop-k.invariant in
    let from = rule-from c.args.tables.now c.args.a in
    let many = places-many _ c.requires.fits _ c.requires.named _ c.first_places-places.ensures in
    let o = c.requires.fits.ordered _ c.requires.named in
    let l = le-max_left c.loop-k.self.count (c.rule_at-start.result - 256 + length c.first_places-places.result.now) in
    let r = le-max_right c.loop-k.self.count (c.rule_at-start.result - 256 + length c.first_places-places.result.now) in (
      rw c.max-self.ensures (max-le u s),
      n,
      m,
      noted-done _ _ _ _ _ _ _ _ h _ (omega (arith, l, c.max-self.ensures))
          (rw add-one (omega (arith, r, c.max-self.ensures, many))) (rw add-one (omega (arith, many))),
    )
