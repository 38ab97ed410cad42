pub mod Form
pub mod Value
pub mod Weight
pub mod Claims
pub mod Figures
pub mod Inner
