pub mod Sheet
pub mod Cases
pub mod Long
