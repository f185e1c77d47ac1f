pub mod Saying
pub mod Visited
pub mod Going
pub mod Ended
pub mod Loop
pub mod Idle
