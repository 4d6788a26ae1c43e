pub mod Ranges
pub mod EarlyEnd
pub mod Spans
pub mod Layout1
