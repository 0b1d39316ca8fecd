mod Held
pub mod Laws
mod ReadBack
mod SpelledNumbers
