pub mod Parts
pub mod Stretch
pub mod Claims
pub mod Figures
