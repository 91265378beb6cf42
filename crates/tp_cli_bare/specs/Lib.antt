pub mod Bare
pub mod ServeLines
pub mod JournalLines
pub mod Logged
