pub mod Order
pub mod Why
