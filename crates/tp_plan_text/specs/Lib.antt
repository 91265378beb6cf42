pub mod Steps
pub mod PlanLexemes
pub mod PlanForms
pub mod PlanTexts
pub mod PlanPrints
pub mod TaskWords
pub mod TaskPlans
pub mod PlanNames
