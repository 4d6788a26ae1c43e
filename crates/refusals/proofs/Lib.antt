pub mod Booleans
pub mod Cases
pub mod Answers
pub mod Shared
pub mod Numbers
