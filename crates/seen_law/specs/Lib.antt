pub mod Retold
pub mod Laws
pub mod Meanwhile
pub mod Rows
pub mod Builds
