pub mod Jobs
pub mod Archive
pub mod Theorems
