pub mod Stretches
pub mod Calls
pub mod Theorem
pub mod Claims
