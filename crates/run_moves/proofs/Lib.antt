pub mod Fronts
pub mod Places
pub mod Moves
pub mod Raising
