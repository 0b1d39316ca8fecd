pub mod Reading
pub mod Getting
