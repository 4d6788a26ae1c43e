pub mod Checking
pub mod Tags
pub mod Accepted
pub mod Layout1
pub mod Layout2
pub mod KeyCheck
