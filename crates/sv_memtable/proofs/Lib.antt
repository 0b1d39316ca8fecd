pub mod CopiedRows
pub mod FrozenRows
pub mod IndexLaws
pub mod NumberedRows
pub mod PartedNumbers
