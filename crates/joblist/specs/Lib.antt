pub mod List
pub mod Marks
