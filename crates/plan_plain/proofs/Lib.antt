pub mod Waiting
pub mod Counted
pub mod Stood
pub mod Deciding
pub mod Telling
pub mod Beginning
pub mod Changing
