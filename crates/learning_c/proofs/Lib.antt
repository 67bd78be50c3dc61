-- Laws for single questions.
pub mod QuestionLaws
