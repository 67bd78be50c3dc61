-- The scope's starred cases hold: by computing the definitions. And what it says of G1 beside them: its bytes, and a second derivation of note 1 2.
use mathlib.Core.Path.{◌≡◌, refl}
use mathlib.Core.List.{[], ◌∷◌}
use Rattle.grammar.specs.declared.Symbol.TheVariants.{Nonterminal}
use Rattle.base.specs.Lists.{AllOf}
use Rattle.grammar.specs.Decode.{decode, got, mark}
use Rattle.grammar.specs.Encode.{encode}
use Rattle.grammar.specs.Derivation.{Leftmost, done, match, expand, of_rules}
use Rattle.soundness.specs.Check.{check_of}
use Rattle.derivation.specs.Plain.{plain_reading}
use Rattle.derivation.specs.Cases.{g1, g1_rules, Holds, cases}

pub starred : AllOf Holds cases
unfolding plain_reading check_of
starred = (refl, (refl, (refl, (refl, (refl, (refl, (refl, (refl, (refl, (refl, (refl, (refl, tt))))))))))))

-- the bytes of G1 are those of its rules, and say them: ten places in fourteen bytes
pub g1-bytes : g1 ≡ encode g1_rules
unfolding encode
g1-bytes = refl

pub g1-rules : decode g1 ≡ got g1_rules (mark 14 10)
unfolding decode
g1-rules = refl

-- 2 1 derives note 1 2 too
pub two_ways : Leftmost (of_rules g1_rules) (Nonterminal 0 ∷ []) (2 ∷ 1 ∷ []) (1 ∷ 2 ∷ [])
two_ways = expand refl (expand refl (match tt (match tt done)))
