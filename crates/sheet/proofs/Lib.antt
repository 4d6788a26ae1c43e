pub mod LineLaws
pub mod Cases
pub mod Long
pub mod FirstByte
