-- FIRST and FOLLOW as sets of nonterminals, one of each for every kind of token, 0 being the end mark; and all that the laws on ends ask of them.
use Rattle.std.specs.Prelude.{◌≡◌, Bool, ◌&&◌, ℕ, suc, T}
use Rattle.std.proofs.Math.Option.{some}
use Rattle.grammar.specs.declared.Symbol.TheVariants.{Token, Nonterminal, End}
use Rattle.grammar.specs.Limits.{end_mark}
use Rattle.grammar.specs.Grammar.{Grammar, facing, owner, admits, first}
use Rattle.closures.specs.Closures.{nullable?}
use Rattle.first_follow.specs.FirstFollow.{Skips}

-- for each token: nonterminals that may start with it, those that it may follow, and those that may be empty before it
pub record Masks : Type 0 where
  pub starts : ℕ → ℕ → Bool
  pub follows : ℕ → ℕ → Bool
  pub empty : ℕ → ℕ → Bool

-- Closed under the rules of FIRST and FOLLOW. A bit too many does no harm: it costs time and changes no answer.
pub record Closed (g : Grammar) (M : Masks) : Type 0 where
  pub start-token : (a b f q k t : ℕ) → first g a b ≡ some f → Skips g f q → facing g q ≡ Token k → T (admits g k t) → T (M.starts t a)
  pub start-call : (a b f q c t : ℕ) → first g a b ≡ some f → Skips g f q → facing g q ≡ Nonterminal c → T (M.starts t c) → T (M.starts t a)
  pub follow-mark : T (M.follows end_mark 0)
  pub follow-token : (p a q k t : ℕ) → facing g p ≡ Nonterminal a → Skips g (suc p) q → facing g q ≡ Token k → T (admits g k t) → T (M.follows t a)
  pub follow-call : (p a q c t : ℕ) → facing g p ≡ Nonterminal a → Skips g (suc p) q → facing g q ≡ Nonterminal c → T (M.starts t c) → T (M.follows t a)
  pub follow-end : (p a q t : ℕ) → facing g p ≡ Nonterminal a → Skips g (suc p) q → facing g q ≡ End → T (M.follows t (owner g p)) → T (M.follows t a)
  pub empty-is : (t a : ℕ) → M.empty t a ≡ (M.follows t a && nullable? g a)
