pub mod Above
pub mod Tools
pub mod Written
