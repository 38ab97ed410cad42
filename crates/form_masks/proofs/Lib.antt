-- The claims of specs/Claims.antt and the figures of specs/Figures.antt:
pub mod Claims
pub mod Figures
-- What they and the functions' proofs rest on:
pub mod Weights
pub mod Forms
pub mod Sign
pub mod Overlap
pub mod CanonicalMasks
