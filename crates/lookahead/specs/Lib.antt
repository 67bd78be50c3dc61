-- What lookahead learns of a grammar: configurations, their closure, the outcomes of starts and steps (the scope, "What the cache learns").
pub mod Configs
pub mod Closing
pub mod Order
pub mod Outcomes
pub mod Rules
pub mod Given
pub mod Worked
