pub mod Check
pub mod Find
pub mod Sound
pub mod Changes
