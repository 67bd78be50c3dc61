-- What a grammar is: the rules that its bytes say, derivations, places, and the tables that hold them.
pub mod Types
pub mod Limits
pub mod Decode
pub mod Derivation
pub mod Grammar
pub mod Encode
pub mod Faults
pub mod inside
