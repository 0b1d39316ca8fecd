pub mod Freezing
pub mod Index
