-- The symbols of a production as they come one after another.
use Rattle.std.specs.Prelude.{◌≡◌, List, ℕ, ◌<◌, Option, IfSome}
use Rattle.std.specs.Iterator.{YieldsFirst}
use Rattle.grammar.specs.Types.{Symbol, Token, Nonterminal, End}
use Rattle.grammar.specs.declared.production.Symbols.{Symbols}
use Rattle.grammar.specs.Grammar.{suffix}
use Rattle.grammar.specs.inside.Tables.{grammar_in, nonterminals_in}

-- the symbols that are still to come
abbrev pub symbols_left : Symbols → List Symbol
symbols_left s = suffix (grammar_in s.tables.now) s.place

-- a symbol that a grammar of n nonterminals may have
abbrev pub Among : ℕ → Symbol → Type 0
Among n (Nonterminal a) = a < n
Among n (Token k) = Unit {0}
Among n End = Unit {0}

-- the first of the symbols that are left comes, or none is left
abbrev pub GivesSymbol : Symbols → Option Symbol → Symbols → Type 0
GivesSymbol s r t = YieldsFirst symbols_left s r t × (t.tables.now ≡ s.tables.now) × IfSome r (Among (nonterminals_in s.tables.now))
