pub mod FirstWorld
pub mod Bodies
pub mod Cells
pub mod CachingLane
pub mod OpenedLanes
pub mod Changes
pub mod Sweeps
pub mod GivenLocks
