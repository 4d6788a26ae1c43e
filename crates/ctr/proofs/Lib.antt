pub mod Streams
pub mod Counters
pub mod Applied
pub mod Laws
