-- Laws on grammars, one subject a file.
pub mod WordLaws
pub mod SymbolLaws
pub mod SymbolChains
pub mod GrammarLaws
pub mod CompileLaws
pub mod OrderedLaws
pub mod PlaceLaws
pub mod OwnerLaws
pub mod CornerLaws
pub mod PartLaws
pub mod ReaderLaws
pub mod NumberReaders
pub mod LimitLaws
pub mod GrammarReaders
pub mod EncodeLaws
pub mod RoundTrip
pub mod ByteLaws
