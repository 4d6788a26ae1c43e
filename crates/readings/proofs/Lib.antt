pub mod Readings
pub mod Vectors
pub mod Sample
pub mod Tagged
pub mod Tags
pub mod Sealed
pub mod Dropped
pub mod Previewed
