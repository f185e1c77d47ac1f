pub mod Asked
pub mod Build
pub mod Parts
pub mod Reports
pub mod Reported
pub mod Explained
