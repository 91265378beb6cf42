pub mod OnCandidates
pub mod OnClosed
pub mod OnLevels
pub mod OnParts
pub mod OnPicked
pub mod OnWalks
