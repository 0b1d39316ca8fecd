pub mod Parts
pub mod Grown
pub mod Desks
pub mod Lending
