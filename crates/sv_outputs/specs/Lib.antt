pub mod Compacting
pub mod Flushing
pub mod Merging
pub mod Planned
pub mod Putting
pub mod Reading
