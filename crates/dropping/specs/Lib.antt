pub mod Drop
pub mod Preview
pub mod Internal
