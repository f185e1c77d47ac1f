pub mod Visits
pub mod Moves
pub mod Between
pub mod Claims
