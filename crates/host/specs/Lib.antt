pub mod Below
pub mod Clock
pub mod Told
pub mod Traced
pub mod Inside
pub mod Process
pub mod World
pub mod Environment
