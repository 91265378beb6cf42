pub mod Printers
pub mod Words
pub mod Printing
pub mod DomainTexts
