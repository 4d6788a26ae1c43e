pub mod Opens
pub mod Rebuilds
pub mod Long
pub mod WrittenOut
pub mod KeyLength
