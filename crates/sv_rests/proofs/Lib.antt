pub mod Emptying
pub mod Resting
