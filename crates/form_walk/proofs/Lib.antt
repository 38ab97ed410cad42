pub mod Stands
pub mod Parts
pub mod Counted
