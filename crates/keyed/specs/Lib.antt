pub mod KeyRun
pub mod Laws
