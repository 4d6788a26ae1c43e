pub mod Values
pub mod Digits
pub mod Laws
pub mod Reading
