pub mod Freezing
pub mod Kept
pub mod Standing
