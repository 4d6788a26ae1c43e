pub mod Seal
pub mod OwnJobs
pub mod Internal
