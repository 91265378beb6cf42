pub mod OfTask
