pub mod Offsets
pub mod Noted
pub mod Masks
