pub mod Changes
pub mod KeptVersions
