pub mod Sweeping
pub mod Installing
pub mod Changing
