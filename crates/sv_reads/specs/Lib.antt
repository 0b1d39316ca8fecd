pub mod Parts
pub mod OneFile
pub mod Files
pub mod Bodies
