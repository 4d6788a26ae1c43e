pub mod Cases
pub mod Without
pub mod Entries
pub mod Passed
pub mod Ways
pub mod Previewing
