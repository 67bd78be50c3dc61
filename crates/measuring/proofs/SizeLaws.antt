-- What the tables of a checked grammar say of its sizes, by the verdict.
use mathlib.Core.Path.{◌≡◌, refl, sym, ap, ◌∙◌}
use mathlib.Core.List.{List}
use Prim.Native.Nat.{ℕ}
use lib.ListN.{length}
use Rattle.std.specs.Prelude.{Ok, Err}
use Rattle.base.proofs.Booleans.{clash}
use Rattle.number.specs.declared.Refusal.{Refusal}
use Rattle.grammar.specs.Decode.{Rules, Parsed, got, refused, decode}
use Rattle.grammar.specs.Grammar.{Grammar, compile}
use Rattle.grammar.specs.inside.Tables.{grammar_in, nonterminals_in}
use Rattle.grammar.proofs.PlaceLaws.{length-starts_all}
use Rattle.grammar.proofs.WordLaws.{length-starts-in}
use Rattle.soundness.specs.Verdict.{Verdict}
use Rattle.soundness.specs.Check.{check_of}
use Rattle.soundness.specs.inside.Compiled.{Compiled}
use Rattle.soundness.proofs.CheckLaws.{check-refuses}
use Rattle.measuring.specs.declared.measuring.Sizes.{Sizes}
use Rattle.measuring.specs.Measuring.{sizes_of, measure_of}

-- three sizes
abbrev sizes : ℕ → ℕ → ℕ → Sizes
sizes k n p = record { kinds = k; nonterminals = n; places = p }

-- tables that say compiled rules say their sizes
sizes-in : (t : List ℕ) (r : Rules) → grammar_in t ≡ compile r → sizes (grammar_in t).kinds (nonterminals_in t) (grammar_in t).size ≡ sizes_of r
unfolding sizes_of compile
sizes-in t r e =
    let n : nonterminals_in t ≡ length r.productions =
    sym (length-starts-in t) ∙ ap (λ (g : Grammar). length g.starts) e ∙ length-starts_all 0 r.productions in
    rw (n, e)

module _ (s : List ℕ) {v : Verdict} {t : List ℕ} (c : Compiled s v t) where
  -- what the check refuses is refused
  pub measure-refused : {f : Refusal} → v ≡ Err f → Err f ≡ measure_of s
  unfolding measure_of
  measure-refused {f} e = go (decode s) refl
    where
      verdict : check_of s ≡ Err f
      verdict = sym c.verdict ∙ e

      go : (d : Parsed Rules) → decode s ≡ d → Err f ≡ measure_of s
      go (got r m) q = rw (verdict, q)
      go (refused f') q =
          let y : Err f' ≡ Err f = sym (check-refuses s f' q) ∙ verdict in
          let z : f ≡ f' = cc in
          rw (q, z)

  -- and a sound grammar has the sizes that the tables say
  module _ (e : v ≡ Ok tt) {k n p : ℕ} (is-k : k ≡ (grammar_in t).kinds) (is-n : n ≡ nonterminals_in t) (is-p : p ≡ (grammar_in t).size) where
    pub measure-sound : Ok (sizes k n p) ≡ measure_of s
    unfolding measure_of
    measure-sound = go (decode s) refl
      where
        verdict : check_of s ≡ Ok tt
        verdict = sym c.verdict ∙ e

        go : (d : Parsed Rules) → decode s ≡ d → Ok (sizes k n p) ≡ measure_of s
        go (got r m) q = rw (verdict, q, is-k, is-n, is-p) (ap Ok (sizes-in t r (c.says r m q)))
        go (refused f) q =
            let y : Err f ≡ Ok tt = sym (check-refuses s f q) ∙ verdict in
            clash (cc)
