pub mod Bounded
pub mod Clashes
pub mod Fault
pub mod Judged
pub mod Meetings
pub mod Parts
pub mod Sets
pub mod Sides
pub mod Small
pub mod Stored
pub mod Terms
pub use Rattle.tp_plan_text.specs as tp_plan_text
