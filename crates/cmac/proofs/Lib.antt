pub mod Generation
pub mod Answers
pub mod Laws
pub mod Changes
