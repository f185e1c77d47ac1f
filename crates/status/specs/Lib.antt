pub mod Pattern
pub mod Line
pub mod Ending
pub mod Screen
