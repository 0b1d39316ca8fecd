mod DueFiles
mod FileReads
pub mod FlushTexts
pub mod MembersRows
pub mod MergeFlats
mod MergeTables
mod NumberedRows
mod Results
