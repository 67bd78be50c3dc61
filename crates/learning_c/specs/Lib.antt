-- What single questions to a cache answer.
pub mod Questions
