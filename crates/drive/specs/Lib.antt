pub mod Driven
pub mod Moves
pub mod Ending
