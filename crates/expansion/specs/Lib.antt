pub mod KeySchedule
pub mod Decryption
