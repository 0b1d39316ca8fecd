pub mod Called
pub mod Listings
pub mod Owned
