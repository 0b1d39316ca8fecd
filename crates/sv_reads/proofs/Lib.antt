pub mod PartLooks
pub mod FrozenRows
pub mod FoundHits
pub mod FileLooks
pub mod BodyParts
