pub mod Cells
pub mod MaskDigits
pub mod Sieves
