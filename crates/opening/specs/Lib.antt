pub mod Open
pub mod Internal
pub mod Xor
