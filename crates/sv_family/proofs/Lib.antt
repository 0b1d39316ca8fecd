mod ChangedFamilies
mod LawfulFamilies
pub mod SoughtFamilies
mod OpenedFamilies
pub mod OpenFamilies
