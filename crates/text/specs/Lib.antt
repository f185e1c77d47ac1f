pub mod Marks
pub mod Fronts
pub mod Shared
pub mod Handed
