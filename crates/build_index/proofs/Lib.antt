-- For the proofs of the crates above:
pub mod Empty
pub mod Growth
pub mod Reading
pub mod Room
pub mod Values
-- What they and the proofs of the functions rest on:
pub mod Chains
