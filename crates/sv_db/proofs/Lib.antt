pub mod OpenedBooks
pub mod Keeping
pub mod Naming
pub mod Asking
pub mod Pinned
pub mod OpenedLocals
pub mod Handled
