pub mod Answers
pub mod AtOnce
pub mod Chains
pub mod Children
pub mod Plans
pub mod Possible
pub mod Promised
pub mod Rows
pub mod Running
pub mod Sides
pub use Rattle.tp_search_frontier.specs as tp_search_frontier
