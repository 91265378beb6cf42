pub mod CauseLemmas
pub mod FaultLemmas
