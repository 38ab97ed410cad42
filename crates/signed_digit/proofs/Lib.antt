-- The claims of specs/Claims.antt and the figures of specs/Figures.antt:
pub mod Claims
pub mod Figures
-- What they rest on:
pub mod Demand
pub mod Written
pub mod FormCount
pub mod Coefficients
pub mod Listing
pub mod Order
pub mod Canonical
pub mod Masks
pub mod Reduction
pub mod Strings
pub mod Same
pub mod Value
pub mod Minimal
pub mod CanonicalForm
pub mod Pairs
pub mod Forms
pub mod AnyLength
pub mod Tails
pub mod Fibonacci
pub mod Count
pub mod Wider
pub mod Cuts
