pub mod Bytes
pub mod Numbers
pub mod Escapes
pub mod Lines
pub mod Reading
pub mod Tails
pub mod LawLemmas
pub mod Distinct
pub mod Filling
pub mod KeptRecords
pub mod Notes
pub mod Lookups
pub mod Parts
pub mod InForce
pub mod Compacting
pub mod Decided
pub mod EachRead
pub mod Amid
pub mod BuildRecordOf
mod Plain
mod OneOutputLines
pub mod Digits
pub mod HeadFields
pub mod Sayings
pub mod KeptDeps
pub mod Writing
pub mod DepsRecordOf
pub mod TwoOutputLines
