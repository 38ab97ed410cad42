pub mod ZeroFrom
pub mod Filling
pub mod Backward
