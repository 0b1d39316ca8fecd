pub mod Renewal
pub mod Setting
pub mod Ready
