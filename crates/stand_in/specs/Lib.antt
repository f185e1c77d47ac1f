pub mod Moves
pub mod Laws
