pub mod Words
pub mod Running
pub mod Sums
pub mod Bounds
