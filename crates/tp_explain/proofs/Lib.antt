pub mod CallsHeard
