pub mod JoinedPlans
pub mod NetsInForce
pub mod PartRuns
pub mod SameNetworks
