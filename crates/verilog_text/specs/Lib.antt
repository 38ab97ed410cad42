pub mod Text
pub mod Written
pub mod Promise
pub mod Claims
pub mod Figures
