mod Judged
mod Things
mod Through
mod Counted
