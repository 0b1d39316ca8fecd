pub mod Giving
pub mod HandleLaws
