-- What reading a grammar comes to: the first refusal of 1 to 5, or tables that say what the bytes say. This is all that callers need of the reader.
use mathlib.Core.Path.{◌≡◌, refl, ap, ◌∙◌}
use mathlib.Core.List.{List, []}
use Prim.Native.Nat.{ℕ}
use lib.ListN.{replicate}
use Rattle.base.proofs.Booleans.{clash}
use Rattle.number.proofs.NumberLaws.{refused-at}
use Rattle.reader.specs.inside.Types.{Refusal, Read, Cursor, Value, Refused}
use Rattle.grammar.specs.Decode.{Rules, Mark, Parsed, got, refused, decode}
use Rattle.grammar.specs.Grammar.{compile, Limited}
use Rattle.grammar.specs.inside.Tables.{table_words, grammar_in, TablesFit, Bare}
use Rattle.reader.specs.inside.Pass.{Out, out, whole_pass}
use Rattle.reader.proofs.PassLaws.{Same, pass_out, laid_out, pass_same}
use Rattle.reader.proofs.TableLaws.{tables-say}
use Rattle.reader.proofs.FitsLaws.{tables-fit, tables-bare}

pub data PassGives (s : List ℕ) (x : Read) (t : List ℕ) : Type 0 where
  none : (r : Refusal) (c : Cursor) → decode s ≡ refused r → x ≡ Refused r c → PassGives s x t
  whole : (r : Rules) (m : Mark) (v : ℕ) (c : Cursor) → decode s ≡ got r m → x ≡ Value v c → Limited r → grammar_in t ≡ compile r → TablesFit t → Bare t
      → PassGives s x t

pub outcome : (s t₀ : List ℕ) {x : Read} {t : List ℕ} → t₀ ≡ replicate table_words 0 → out x t ≡ whole_pass s t₀ → PassGives s x t
outcome s t₀ {x} {t} z e = go (decode s) refl (pass_same s (replicate table_words 0))
  where
    e₀ : out x t ≡ whole_pass s (replicate table_words 0)
    e₀ = e ∙ ap (whole_pass s) z

    go : (d : Parsed Rules) → decode s ≡ d → Same (whole_pass s (replicate table_words 0)) (pass_out (replicate table_words 0)) (λ r m. Limited r) d
        → PassGives s x t
    go (got r m) q h =
        let o = e₀ ∙ h.0 in
        let w : t ≡ laid_out (replicate table_words 0) r = ap (λ (o : Out). o.tables) o in
        whole r m _ _ q (ap (λ (o : Out). o.answer) o) h.1 (rw w (tables-say r h.1)) (rw w (tables-fit r h.1))
        (rw w (tables-bare r h.1))
    go (refused r) q h =
        let z = refused-at (whole_pass s (replicate table_words 0)).answer r h in none r z.0 q (ap (λ (o : Out). o.answer) e₀ ∙ z.1)

-- rules that bytes say keep every limit
pub decode-limited : (s : List ℕ) (r : Rules) (m : Mark) → decode s ≡ got r m → Limited r
decode-limited s r m e = go (decode s) e (pass_same s [])
  where
    go : (d : Parsed Rules) → d ≡ got r m → Same (whole_pass s []) (pass_out []) (λ r m. Limited r) d → Limited r
    go (got g n) q h = let z : g ≡ r = cc in rw z at h.1
    go (refused f) q h = clash (cc)
