pub mod Plaintext
pub mod Opening
pub mod Xor
