-- `chart::is_end` meets its contract: the answer is read off the symbol.
use mathlib.Core.Path.{refl, sym, ap, ◌∙◌}
use Rattle.grammar.proofs.WordLaws.{facing-of}
use Rattle.chart.specs.inside.Derived.{is_end}
use Rattle.chart.proofs.DerivedLaws.{not_end}
use Rattle.chart.proofs.is_end.Goals as goal

pub returns-in-End : goal.returns-in-End
returns-in-End c = ap is_end (sym (facing-of _ _ c.place_at.ensures c.in-End.is))

pub returns-in_default : goal.returns-in_default
returns-in_default c =
    not_end _ c.in_default.not-End ∙ ap is_end (sym (facing-of _ _ c.place_at.ensures refl))
