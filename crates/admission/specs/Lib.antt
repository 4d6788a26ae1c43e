pub mod Check
pub mod Internal
pub mod Layout1
pub mod Layout2
