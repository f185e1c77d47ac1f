pub mod Retelling
pub mod Going
pub mod Keeping
pub mod Next
pub mod Following
