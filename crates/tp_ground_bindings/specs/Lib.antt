pub mod Bindings
pub mod Views
pub mod KnownChoices
pub mod Rows
pub mod Left
