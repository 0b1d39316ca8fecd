pub mod Setting
pub mod Locked
