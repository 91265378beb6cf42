pub mod OnLists
pub mod ByWords
mod FaultsByWords
pub mod OnNamed
pub mod OnEffects
pub mod OnRuns
pub mod OnFaults
mod OnTables
pub mod OnSteps
mod OnReached
mod OnNeeded
mod OnWhole
mod OnWholeTasks
pub mod OnSame
pub mod OnTold
pub mod OnJudged
mod OnGoal
