pub mod Keys
pub mod Rounds
pub mod Walking
pub mod Same
pub mod Undo
pub mod Good
pub mod Runs
pub mod Laws
