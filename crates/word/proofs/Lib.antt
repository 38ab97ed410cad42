pub mod Order
pub mod Booleans
pub mod LowZeros
pub mod Multiples
pub mod Signed
pub mod Bounds
pub mod Zero
