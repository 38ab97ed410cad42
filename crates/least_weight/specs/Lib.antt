pub mod Logarithm
pub mod Weight
pub mod Claims
pub mod Figures
