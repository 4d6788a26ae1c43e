pub mod Answers
pub mod Leaves
pub mod Previews
