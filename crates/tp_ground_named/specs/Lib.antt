pub mod Picks
pub mod Groups
pub mod Named
pub use Rattle.tp_ground_bindings.specs.Rows
pub use Rattle.tp_ground.specs.Reached
pub use Rattle.tp_ground.specs.ReadBack
pub use Rattle.tp_ground.specs.Bindings
