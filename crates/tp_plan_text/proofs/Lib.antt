pub mod OnLexemes
pub mod OnForms
pub mod OnPlans
pub mod OnPrints
pub mod OnPrinted
pub mod OnWritten
pub mod OnTaskWords
pub mod OnTaskPlans
