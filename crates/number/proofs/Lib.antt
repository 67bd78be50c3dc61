-- Laws on numbers.
pub mod NumberLaws
pub mod FetchLaws
pub mod CountLaws
pub mod AgreeLaws
pub mod ShortestForm
pub mod FormLaws
