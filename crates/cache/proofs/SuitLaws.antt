-- What recording relies on in a grammar and its bytes; every grammar that is read from bytes has it.
use mathlib.Core.Path.{◌≡◌, ap}
use mathlib.Core.Logic.{◌↔◌}
use mathlib.Core.List.{List}
use Prim.Native.Nat.{ℕ, ◌+◌, ◌≤◌, ◌<◌}
use native.Mathlib.Omega.{arith}
use native.Mathlib.Decide.{dec_lt}
use lib.ListN.{length}
use Rattle.grammar.specs.Limits.{max_nonterminals, max_kinds}
use Rattle.grammar.specs.Decode.{Rules, Mark, got, decode}
use Rattle.grammar.specs.Grammar.{Grammar, Limited, compile}
use Rattle.grammar.proofs.ByteLaws.{decode-few}
use Rattle.grammar.proofs.GrammarLaws.{no-alternatives}
use Rattle.grammar.proofs.PlaceLaws.{length-starts_all}
use Rattle.reader.proofs.ReadLaws.{decode-limited}
use Rattle.lookahead.specs.Configs.{Config, Decides}
use Rattle.lookahead.specs.Order.{Packable}
use Rattle.lookahead.specs.Outcomes.{Outcome, start_outcome, step_outcome}
use Rattle.lookahead.specs.Rules.{Each}
use Rattle.lookahead.specs.Given.{StartGives, StepGives}
use Rattle.lookahead.proofs.Bounds.{Bounded, compile-bounded}
use Rattle.lookahead.proofs.Learned.{start-learns, step-learns}
use Rattle.words.specs.Layout.{fixed_words, bytes_at}
use Rattle.words.specs.Begin.{pack_bytes}
use Rattle.words.proofs.SizeLaws.{packed-few}

pub record Suits (g : Grammar) (bytes : List ℕ) : Type 0 where
  pub bounded : Bounded g
  pub kinds : g.kinds ≤ max_kinds
  pub decisions : (a : ℕ) → Decides g a → a < max_nonterminals
  pub packed : bytes_at + length (pack_bytes bytes) ≤ fixed_words
  -- the computed outcomes are those that the rules give, and no others are
  pub starts : (a : ℕ) (o : Outcome) → StartGives g a o ↔ (start_outcome g a ≡ o)
  pub steps : (ks : List Config) → Each Packable ks → (t : ℕ) (o : Outcome) → StepGives g t ks o ↔ (step_outcome g t ks ≡ o)

pub compile-decisions : (r : Rules) → Limited r → (a : ℕ) → Decides (compile r) a → a < max_nonterminals
unfolding compile
compile-decisions r limits a d = go (dec_lt a (length (compile r).starts))
  where
    count : length (compile r).starts ≡ length r.productions
    count = length-starts_all 0 r.productions

    go : Dec (a < length (compile r).starts) → a < max_nonterminals
    go (yes h) = omega (arith, count, limits.few)
    go (no h) = let e = no-alternatives (compile r) a (omega arith) in absurd (omega (arith, ap length e))

-- every grammar that is read from bytes suits them
pub decode-suits : (s : List ℕ) (r : Rules) (m : Mark) → decode s ≡ got r m → Suits (compile r) s
unfolding compile
decode-suits s r m e =
    let limits = decode-limited s r m e in
    record {
      bounded = compile-bounded r limits;
      kinds = limits.kinds-most;
      decisions = compile-decisions r limits;
      packed = omega (arith, decode-few s r m e, packed-few s);
      starts = start-learns r limits;
      steps = step-learns r limits;
    }
