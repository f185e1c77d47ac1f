pub mod Signs
pub mod Depfile
pub mod Pieces
pub mod Runs
pub mod Words
pub mod Kept
