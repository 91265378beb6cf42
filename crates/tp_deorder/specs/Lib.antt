pub mod Spans
pub mod Inequalities
pub mod Kept
pub mod Answers
pub mod RunPlans
pub mod EventTexts
pub use Rattle.tp_task.specs as tp_task
pub use Rattle.tp_happen.specs as tp_happen
pub use Rattle.tp_validate.specs as tp_validate
