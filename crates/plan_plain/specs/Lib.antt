pub mod Scan
pub mod Planned
