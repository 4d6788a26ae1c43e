pub mod Puts
pub mod Lines
pub mod Fits
pub mod Accepted
pub mod Directories
pub mod Examples
