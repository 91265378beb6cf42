pub mod RowViews
pub mod SignatureViews
pub mod SymbolViews
pub mod Bound
pub mod Fits
pub mod LevelViews
pub mod ScopeViews
