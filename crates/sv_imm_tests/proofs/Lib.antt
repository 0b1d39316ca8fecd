pub mod Known
pub mod KnownVersions
pub mod Live
