pub mod Headings
pub mod Leaving
