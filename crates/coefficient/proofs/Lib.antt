-- The claims of specs/Claims.antt and the figures of specs/Figures.antt:
pub mod Claims
pub mod Figures
-- What they and the functions' proofs rest on:
pub mod TheReduction
pub mod TheStretch
pub mod PartsOf
pub mod Words
pub mod Ends
