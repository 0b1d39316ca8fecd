pub mod AbsentFiles
mod ActiveCells
mod CallLaws
mod CellLaws
mod ClosedBooks
mod ClosedStore
mod ClosingSteps
mod CompactionCalls
mod CompactionFiles
mod CurrentCases
pub mod EmptiedFamilies
mod EndedCurrents
pub mod EndedNumbers
mod EndedSnapshots
mod FlushCalls
mod FlushFiles
mod FlushLaws
mod FlushedLaws
mod FrameLaws
mod HandedNumbers
mod HeldCloses
mod HeldCompactions
mod HeldFlushes
pub mod HeldLaws
mod HeldPurges
mod HeldScans
mod LeftCompactions
mod LeftFlushes
mod LeftNumbers
mod LeftScans
mod LiveLaws
mod OpeningLaws
mod OutputLaws
mod OutputRefusals
mod PlanFaults
mod PlanLaws
mod PurgeLaws
mod PurgeSteps
mod ReadCalls
mod ReadLaws
mod ReadParts
mod RemovalMarks
pub mod RemovalSteps
mod RemovedFiles
mod RetireLaws
pub mod ScanLaws
mod ScanSteps
mod StandLaws
mod StillLaws
mod SwitchLaws
mod TriedNumbers
mod VacantCells
mod WriteLaws
