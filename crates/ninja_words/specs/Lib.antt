pub mod Heading
pub mod Escapes
