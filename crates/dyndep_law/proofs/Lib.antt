pub mod Answered
pub mod Fronts
pub mod Grammars
pub mod Told
pub mod Decided
pub mod Total
