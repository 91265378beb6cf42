pub mod AnswerLemmas
pub mod RunLemmas
pub mod StatusLemmas
pub mod LoggedLemmas
pub mod JournaledLemmas
