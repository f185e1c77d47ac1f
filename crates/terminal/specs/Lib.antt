pub mod Screen
pub mod Texts
pub mod Shown
