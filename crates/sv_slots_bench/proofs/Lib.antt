pub mod Pairs
pub mod Works
