pub mod Dyndep
pub mod Refused
