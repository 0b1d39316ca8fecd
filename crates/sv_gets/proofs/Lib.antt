pub mod Looking
pub mod ReadViews
pub mod Texts
pub mod Finding
pub mod Getting
pub mod Pinning
