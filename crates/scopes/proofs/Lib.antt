mod Growth
mod Lists
mod Back
mod Keeping
pub mod Walking
pub mod Valuing
mod Knowing
mod Alone
mod Special
mod Few
mod LastBound
mod Marking
