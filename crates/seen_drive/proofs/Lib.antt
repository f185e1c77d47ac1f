mod Going
mod Visited
mod Loop
mod Ended
mod Behind
mod Growing
mod Law
