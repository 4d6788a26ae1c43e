pub mod Finding
pub mod Sound
pub mod Changes
