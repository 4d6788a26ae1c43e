pub mod Decimal
pub mod Word
pub mod Laws
