pub mod OnEnvironments
pub mod Along
pub mod OnKnown
pub mod OnFitting
pub mod OnRows
pub mod Visited
