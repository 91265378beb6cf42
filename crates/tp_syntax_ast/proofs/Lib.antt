pub mod Loops
pub mod OnGives
pub mod OnLists
pub mod OnWords
pub mod OnFaults
pub mod OnFirsts
pub mod OnExpressions
pub mod OnConds
pub mod OnParts
mod Rows
