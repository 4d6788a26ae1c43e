pub mod UnderKey
pub mod Laws
