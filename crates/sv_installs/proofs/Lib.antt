pub mod Passing
pub mod Retiring
pub mod Replaced
pub mod Renewing
pub mod Filling
pub mod SweptLanes
pub mod Changed
