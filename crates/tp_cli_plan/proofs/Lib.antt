pub mod AnswerLemmas
pub mod JoinedLemmas
pub mod ReadBack
pub mod StopLemmas
pub mod TaskLemmas
pub mod OnAll
