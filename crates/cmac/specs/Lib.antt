pub mod Cmac
pub mod Tag
pub mod Laws
pub mod Changes
