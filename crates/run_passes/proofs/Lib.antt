pub mod Outputs
pub mod Tops
