pub mod Values
pub mod Words
mod Passing
mod Ends
mod Shown
mod Telling
mod Optional
mod Judging
mod Unstarted
