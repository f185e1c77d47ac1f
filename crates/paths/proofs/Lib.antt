pub mod Places
pub mod Flat
pub mod Naming
pub mod Growing
pub mod Apart
pub mod Shrinking
