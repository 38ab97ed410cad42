-- The figures of specs/Figures.antt and the claims of specs/Claims.antt:
pub mod Figures
pub mod Claims
-- What they rest on, and the proofs of the crates above cite:
pub mod Weight
pub mod Addition
pub mod Logarithm
