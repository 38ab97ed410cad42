pub mod Demand3
pub mod Sheet
pub mod Figures
pub mod Joining
