pub mod Fails
pub mod Files
pub mod MemDir
pub mod RealDir
pub mod TableNames
