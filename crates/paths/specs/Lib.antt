pub mod Numbers
pub mod Lists
pub mod Commands
pub mod Told
pub mod Grown
pub mod Shrunk
