mod Listed
mod Refused
mod Blocks
