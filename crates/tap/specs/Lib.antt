pub mod Rounding
pub mod Figures
pub mod Claims
pub mod Inner
