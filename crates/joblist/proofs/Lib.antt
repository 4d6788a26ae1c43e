pub mod Cases
pub mod Listed
pub mod Marking
