pub mod Changes
pub mod KeptLists
