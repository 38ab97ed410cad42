pub mod Words
pub mod Sizes
pub mod Terms
pub mod Steps
pub mod Theorems
pub mod Trailing
pub mod Past
