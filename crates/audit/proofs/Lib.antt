pub mod Members
pub mod Summed
pub mod Places
pub mod Parts
pub mod Breaking
