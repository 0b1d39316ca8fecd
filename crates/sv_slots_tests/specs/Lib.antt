pub mod World
pub mod Stages
pub mod Unused
pub mod Sweeping
