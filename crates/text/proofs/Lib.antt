pub mod Puts
pub mod Lines
pub mod Decimals
pub mod Integers
pub mod Readback
