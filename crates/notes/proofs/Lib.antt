pub mod Finding
pub mod Names
pub mod Rest
pub mod Placing
