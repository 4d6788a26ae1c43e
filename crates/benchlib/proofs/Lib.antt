pub mod Told
pub mod Bench
pub mod Opening
pub mod Sealing
pub mod Dropping
