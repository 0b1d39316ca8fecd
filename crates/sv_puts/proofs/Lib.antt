pub mod ActiveCells
pub mod Appending
pub mod SwitchLaws
pub mod PutLaws
pub mod PutChanges
pub mod LockedPuts
pub mod Putting
