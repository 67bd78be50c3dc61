-- The types of the code that the definitions speak of, under one roof.
pub use Rattle.number.specs.declared.Refusal.{Refusal}
pub use Rattle.number.specs.declared.Refusal.TheVariants.{Unfinished, Malformed, OverLimit, UnknownSymbol, Trailing, Unproductive, LeftRecursive}
pub use Rattle.number.specs.declared.Cursor.{Cursor}
pub use Rattle.number.specs.declared.Read.{Read}
pub use Rattle.number.specs.declared.Read.TheVariants.{Value, Refused}
pub use Rattle.grammar.specs.declared.Symbol.{Symbol}
pub use Rattle.grammar.specs.declared.Symbol.TheVariants.{Token, Nonterminal, End}
pub use Rattle.grammar.specs.declared.Place.{Place}
