pub mod Subkeys
pub mod Laws
