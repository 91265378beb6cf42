pub mod Form
pub mod Auditing
pub mod Telling
pub mod Laws
pub mod Replay
