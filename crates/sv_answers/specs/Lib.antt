pub mod Answered
pub mod Run
pub mod Steps
