pub mod Products
pub mod FourSums
