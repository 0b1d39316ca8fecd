pub mod Cleanups
pub mod Makings
pub mod Openings
pub mod Shown
