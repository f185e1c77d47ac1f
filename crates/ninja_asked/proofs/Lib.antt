pub mod Gathering
pub mod Keeping
pub mod Looking
pub mod Parting
