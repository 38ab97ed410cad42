pub mod Set
pub mod Figures
pub mod Claims
pub mod Inner
