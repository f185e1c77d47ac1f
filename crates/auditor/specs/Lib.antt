pub mod Things
pub mod Scratch
pub mod Left
pub mod Links
pub mod Tally
