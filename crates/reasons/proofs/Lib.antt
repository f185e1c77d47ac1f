pub mod Firsts
pub mod Ordering
pub mod Taking
pub mod Telling
