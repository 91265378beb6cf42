pub mod OnPicks
pub mod OnGroups
pub mod OnChosen
pub mod OnEnds
