pub mod Bounds
pub mod Longer
pub mod Rounds
pub mod Sieved
