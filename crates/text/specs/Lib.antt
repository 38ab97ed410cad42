pub mod Ascii
pub mod Numbers
pub mod Lines
pub mod Claims
pub mod Inner
