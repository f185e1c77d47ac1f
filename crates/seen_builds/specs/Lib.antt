pub mod Makes
pub mod From
pub mod Runs
pub mod Claims
pub mod Fresh
pub mod Kept
