pub mod BareLemmas
pub mod LoggedLemmas
