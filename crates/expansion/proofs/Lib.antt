pub mod KeyLengths
pub mod Keys
pub mod KeyBytes
pub mod Reversal
pub mod Undo
