pub mod Held
pub mod Edges
pub mod Carried
pub mod Known
pub mod Logging
pub mod Left
pub mod Laws
