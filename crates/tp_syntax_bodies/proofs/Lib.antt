pub mod OnConstraints
pub mod OnEffects
