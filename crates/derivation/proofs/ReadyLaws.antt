-- What tables that are ready give a reading: every index that it meets is in range, and productions never leave their places.
use mathlib.Core.Path.{◌≡◌, refl, sym, ap, ◌∙◌}
use mathlib.Core.Option.{some}
use mathlib.Core.List.{List}
use Prim.Native.Nat.{ℕ, suc, ◌≤◌, ◌<◌}
use native.Mathlib.Omega.{arith}
use Rattle.std.specs.Prelude.{Ok, Err}
use Rattle.base.proofs.Booleans.{clash}
use Rattle.grammar.specs.declared.Symbol.TheVariants.{Token, Nonterminal, End}
use Rattle.grammar.specs.Limits.{max_places, max_nonterminals}
use Rattle.grammar.specs.Decode.{Rules, Mark, Parsed, got, refused, decode}
use Rattle.grammar.specs.Grammar.{Grammar, facing, first, size_all, compile}
use Rattle.grammar.specs.inside.Tables.{grammar_in}
use Rattle.grammar.specs.inside.Ordered.{Ordered}
use Rattle.grammar.proofs.OrderedLaws.{compile-ordered}
use Rattle.grammar.proofs.OwnerLaws.{compile-first, compile-next, compile-kind}
use Rattle.grammar.proofs.PlaceLaws.{compile-within}
use Rattle.reader.proofs.ReadLaws.{decode-limited}
use Rattle.number.specs.declared.Refusal.{Refusal}
use Rattle.soundness.specs.Verdict.{Verdict}
use Rattle.soundness.specs.Check.{judge_of, on_decoded, check_of}
use Rattle.soundness.specs.inside.Compiled.{Compiled}
use Rattle.soundness.proofs.CheckLaws.{check_sound}
use Rattle.derivation.specs.Gate.{passed, shut_by, sound_gate, note_gate, gate}
use Rattle.derivation.specs.inside.Ready.{Ready}
use Rattle.derivation.proofs.GateLaws.{sound-passes, sound-refuses}
use Rattle.derivation.proofs.CellLaws.{Kept}
use Rattle.derivation.proofs.SoundGrammar.{sound-straight}

-- a sound grammar's check leaves tables that are ready
pub ready : (s : List ℕ) (v : Verdict) (t : List ℕ) (r : Rules) (m : Mark) → Compiled s v t → decode s ≡ got r m → v ≡ Ok tt → Ready t
ready s v t r m c e q =
    record {
      rules = r;
      limited = decode-limited s r m e;
      says = c.says r m e;
      fits = c.fits r m e;
      straight = sound-straight r (decode-limited s r m e) ((check_sound s r m e).0 (sym c.verdict ∙ q));
      corners = c.cornered q;
    }

-- rules that bytes s say, that are judged sound, and that tables t say
pub record Judged (s t : List ℕ) : Type 0 where
  pub rules : Rules
  pub mark : Mark
  pub decoded : decode s ≡ got rules mark
  pub sound : judge_of (compile rules) ≡ Ok tt
  pub says : grammar_in t ≡ compile rules

-- what follows from a verdict
module _ (s : List ℕ) {v : Verdict} {t : List ℕ} (c : Compiled s v t) where
  pub verdict-is : {x : Verdict} → v ≡ x → on_decoded (decode s) ≡ x
  unfolding check_of
  verdict-is e = sym c.verdict ∙ e

  pub sound-judged : v ≡ Ok tt → Judged s t
  sound-judged e = go (decode s) refl (verdict-is e)
    where
      go : (d : Parsed Rules) → decode s ≡ d → on_decoded d ≡ Ok tt → Judged s t
      go (refused q) f j = clash (cc)
      go (got r m) f j = record { rules = r; mark = m; decoded = f; sound = j; says = c.says r m f }

  pub sound-ready : v ≡ Ok tt → Ready t
  sound-ready e = let j = sound-judged e in ready s v t j.rules j.mark c j.decoded e

  -- the gates, from the verdict and the tables
  pub compiled-refuses : {r : Refusal} → v ≡ Err r → sound_gate s ≡ shut_by r
  compiled-refuses {r} e = sound-refuses s r (sym c.verdict ∙ e)

  pub compiled-passes : v ≡ Ok tt → sound_gate s ≡ passed (grammar_in t)
  compiled-passes e =
      let j = sound-judged e in
      sound-passes s j.rules j.mark j.decoded (sym c.verdict ∙ e) ∙ ap passed (sym j.says)

  pub compiled-gate : (w : List ℕ) (space : ℕ) → v ≡ Ok tt → gate s w space ≡ note_gate (grammar_in t) w space
  unfolding gate
  compiled-gate w space e = rw (compiled-passes e)

module _ (t : List ℕ) (h : Ready t) where
  abbrev g : Grammar
  g = grammar_in t

  -- a fact of compiled rules is one of the tables
  from-rules : (F : Grammar → Type 0) → F (compile h.rules) → F (grammar_in t)
  from-rules F x = rw h.says x

  size_is : (grammar_in t).size ≡ size_all h.rules.productions
  unfolding compile
  size_is = ap (λ (g : Grammar). g.size) h.says

  pub ready-ordered : Ordered (grammar_in t)
  ready-ordered = from-rules Ordered (compile-ordered h.rules h.limited)

  pub ready-size : (grammar_in t).size ≤ max_places
  ready-size = omega (arith, size_is, h.limited.small)

  pub ready-first : (a b f : ℕ) → first (grammar_in t) a b ≡ some f → f < (grammar_in t).size
  ready-first a b f e = rw size_is (compile-first h.rules h.limited a b f (rw h.says at e))

  pub ready-next : (p : ℕ) → p < (grammar_in t).size → ¬ (facing (grammar_in t) p ≡ End) → suc p < (grammar_in t).size
  ready-next p l n = rw size_is (compile-next h.rules h.limited p (omega (arith, size_is)) (λ e. n (rw h.says e)))

  pub ready_call : (p a : ℕ) → facing (grammar_in t) p ≡ Nonterminal a → p < (grammar_in t).size
  ready_call p a e = rw size_is (compile-within h.rules h.limited p a (rw h.says at e))

  pub ready-kind : (p k : ℕ) → p < (grammar_in t).size → facing (grammar_in t) p ≡ Token k → 1 ≤ k
  ready-kind p k l e = compile-kind h.rules h.limited p k (omega (arith, size_is)) (rw h.says at e)

  pub ready-named : (p a : ℕ) → facing (grammar_in t) p ≡ Nonterminal a → a < max_nonterminals
  ready-named p a e = omega (arith, h.fits.named p a e, h.fits.few)

  -- derivations from the places of productions never leave them
  pub ready-kept : Kept (grammar_in t) (λ p. p < (grammar_in t).size)
  ready-kept = record { next = λ p l n. ready-next p l n; starts = ready-first }
