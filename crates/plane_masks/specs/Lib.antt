pub mod Binary
pub mod Planes
pub mod Grid
pub mod Written
pub mod Claims
pub mod Figures
