pub mod Ahead
pub mod Clock
pub mod Edges
pub mod Found
pub mod Nearest
pub mod OtherLog
pub mod Program
