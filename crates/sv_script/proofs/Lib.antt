pub mod ItemLemmas
pub mod NumberLemmas
pub mod ProgressLemmas
pub mod UnitLemmas
pub mod WellFormedLemmas
