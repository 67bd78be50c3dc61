-- The goals of `grammar::first_places` that are not found.
use native.Mathlib.Omega.{arith}
use Prim.Native.Nat.{◌+◌, ◌-◌}
use mathlib.Core.Path.{◌≡◌, sym, ◌∙◌}
use native.Mathlib.Numerals.{add-one}
use Rattle.std.proofs.lemmas.List.{drop-take}
use Rattle.grammar.specs.inside.Tables.{rule_at}
use Rattle.grammar.proofs.WordLaws.{alternatives-in}
use Rattle.grammar.proofs.first_places.Goals as goal

pub returns : goal.returns
returns c =
    let o = c.requires.0.ordered _ c.requires.1 in
    let t = c.args.tables.now in
    let e : rule_at t c.args.a + (rule_at t (c.args.a + 1) - rule_at t c.args.a) ≡ rule_at t (c.args.a + 1) = rw add-one (omega arith) in
    let d = drop-take (rule_at t c.args.a) (rule_at t (c.args.a + 1) - rule_at t c.args.a) t in
    rw (c.rule_at.ensures, c.rule_at-2.ensures) (rw e at (sym d) ∙ rw add-one (sym (alternatives-in _ _ c.requires.1)))
