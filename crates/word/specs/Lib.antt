pub mod Bounds
pub mod Zero
