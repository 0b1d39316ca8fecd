pub mod Completing
pub mod Moving
pub mod Numbering
pub mod Running
pub mod Sending
pub mod Wording
mod WorkedRows
