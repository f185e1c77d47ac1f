pub mod Cutting
pub mod Pieces
pub mod Behind
pub mod Counting
pub mod Owning
pub mod Telling
