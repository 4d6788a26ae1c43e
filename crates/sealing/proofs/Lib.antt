pub mod Cases
pub mod Jobs
pub mod Written
pub mod Ways
