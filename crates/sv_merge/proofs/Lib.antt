pub mod BuildLaws
pub mod InOrderLaws
pub mod MergeLaws
pub mod MergeWellFormed
pub mod NewestFirst
pub mod PlacingLaws
pub mod SameFirsts
pub mod ThinnedLaws
