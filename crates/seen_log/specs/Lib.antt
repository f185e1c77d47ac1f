pub mod Record
pub mod Log
pub mod Keeping
pub mod Digits
