-- FIRST and FOLLOW as in any textbook: the tokens that what a nonterminal derives may begin with, and those that may stand behind it, the end mark among
-- them. FOLLOW counts every occurrence in the grammar.
use Rattle.std.specs.Prelude.{◌≡◌, ℕ, suc, T}
use Rattle.std.proofs.Math.Option.{some}
use Rattle.grammar.specs.declared.Symbol.TheVariants.{Token, Nonterminal, End}
use Rattle.grammar.specs.Limits.{end_mark}
use Rattle.grammar.specs.Grammar.{Grammar, facing, owner, admits, first}
use Rattle.closures.specs.Closures.{nullable?}

-- from place p to place q of the same production, over nonterminals that derive the empty row
pub data Skips (g : Grammar) : ℕ → ℕ → Type 0 where
  here : {p : ℕ} → Skips g p p
  over : {p q c : ℕ} → facing g p ≡ Nonterminal c → T (nullable? g c) → Skips g (suc p) q → Skips g p q

-- token t is in FIRST of nonterminal a: a production of a has it, or a nonterminal that may begin with it, behind only nonterminals that may be empty
pub data First (g : Grammar) (t : ℕ) : ℕ → Type 0 where
  token : {a f q k : ℕ} (b : ℕ) → first g a b ≡ some f → Skips g f q → facing g q ≡ Token k → T (admits g k t) → First g t a
  call : {a f q c : ℕ} (b : ℕ) → first g a b ≡ some f → Skips g f q → facing g q ≡ Nonterminal c → First g t c → First g t a

-- token t is in FOLLOW of nonterminal a: the end mark follows the start symbol; and behind a place p that faces a, but for nonterminals that may be empty,
-- stands the token, or a nonterminal that may begin with it, or the end of a production whose nonterminal it may follow
pub data Follow (g : Grammar) (t : ℕ) : ℕ → Type 0 where
  mark : t ≡ end_mark → Follow g t 0
  token : {p a q k : ℕ} → facing g p ≡ Nonterminal a → Skips g (suc p) q → facing g q ≡ Token k → T (admits g k t) → Follow g t a
  call : {p a q c : ℕ} → facing g p ≡ Nonterminal a → Skips g (suc p) q → facing g q ≡ Nonterminal c → First g t c → Follow g t a
  end : {p a q : ℕ} → facing g p ≡ Nonterminal a → Skips g (suc p) q → facing g q ≡ End → Follow g t (owner g p) → Follow g t a
