pub mod OnPairs
pub mod OnTables
pub mod OnTypes
pub mod OnNames
pub mod OnClimbs
pub mod OnRows
