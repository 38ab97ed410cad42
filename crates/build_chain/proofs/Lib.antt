pub mod HighDigits
pub mod NextDigit
pub mod Masks
pub mod Longer
pub mod Turns
pub mod Starts
