pub mod Calls
pub mod Causes
pub mod FaultLines
pub mod Faults
pub mod FileFaults
pub mod Texts
