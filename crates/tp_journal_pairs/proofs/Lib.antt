pub mod EdgeTexts
pub mod ReadLemmas
pub mod Verdicts
pub mod WriteLemmas
pub mod SoundLemmas
pub mod MarkLemmas
pub mod HeadLemmas
pub mod FollowLemmas
