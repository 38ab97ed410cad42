pub mod Sizes
pub mod Largest
pub mod Rounds
pub mod Settled
pub mod Theorems
pub mod Refusals
pub mod Figures
pub mod Claims
