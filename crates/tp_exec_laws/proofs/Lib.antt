pub mod NetsInForce
mod OnBounds
mod OnEvents
mod OnLimits
mod OnLists
mod OnNetworks
mod OnPlans
mod OnSteps
mod OnTicks
pub mod PartReports
