pub mod Argument
pub mod Taps
pub mod Input
