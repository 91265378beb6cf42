pub mod Tables
pub mod OwnTables
pub mod TypeNames
pub mod TypeViews
pub mod Among
pub mod NameSets
