pub mod Counter
pub mod Laws
pub mod Internal
