pub mod Ended
pub mod Lost
pub mod Closing
pub mod Releasing
