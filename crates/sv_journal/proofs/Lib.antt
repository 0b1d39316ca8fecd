mod JournalLaws
mod LiveLaws
mod CutReads
