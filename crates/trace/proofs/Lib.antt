pub mod Cutting
pub mod Names
pub mod Running
pub mod Rows
pub mod Keeping
