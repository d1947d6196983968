pub mod AnswersInTurn
