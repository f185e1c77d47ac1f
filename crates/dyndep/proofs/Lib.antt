pub mod Additions
pub mod Parts
pub mod Answer
