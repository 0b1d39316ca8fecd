pub mod Decoding
pub mod Lookups
pub mod Places
pub mod Reading
pub mod Views
pub mod Words
