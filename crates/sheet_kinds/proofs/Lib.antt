pub mod Values
pub mod Counted
