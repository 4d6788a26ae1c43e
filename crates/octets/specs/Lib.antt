pub mod Numbers
pub mod Equality
pub mod Below
pub mod Tables
pub mod Parts
pub mod Laws
