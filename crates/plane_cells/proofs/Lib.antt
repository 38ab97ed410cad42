pub mod Planes
pub mod Masks
pub mod Forms
