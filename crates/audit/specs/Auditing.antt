-- An audit for caches that another program wrote: what it answers, for any bytes and any words.
use Rattle.std.specs.Prelude.{cond, List, ℕ, ltb, length}
use Rattle.grammar.specs.Grammar.{Grammar}
use Rattle.derivation.specs.Gate.{at_gate, sound_gate}
use Rattle.words.specs.Layout.{min_words}
use Rattle.words.specs.Begin.{begun?}
use Rattle.auditing.specs.Coherence.{coherent?}

-- a number and a place
pub record Audited : Type 0 where
  pub number : ℕ
  pub place : ℕ

abbrev pub audited : ℕ → ℕ → Audited
audited n p = record { number = n; place = p }

-- 19, or a yes
unfoldable pub from19 : Grammar → List ℕ → List ℕ → Audited
unfolding coherent?
from19 g bytes c = cond (coherent? g bytes c) (audited 0 0) (audited 19 0)

-- 12 and 13, and then the words
unfoldable pub from12 : Grammar → List ℕ → List ℕ → Audited
unfolding begun? from19
from12 g bytes c =
    let words = from19 g bytes c in
    cond (ltb (length c) min_words) (audited 12 0) (cond (begun? bytes c) words (audited 13 0))

-- 1 to 7 at the gate of sound bytes, and then 12
unfoldable pub audit_of : List ℕ → List ℕ → Audited
unfolding sound_gate from12
audit_of bytes c = at_gate audited (λ g. from12 g bytes c) (sound_gate bytes)
