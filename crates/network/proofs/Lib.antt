-- What specs/Claims.antt and specs/Figures.antt state:
pub mod NearFigures
pub mod AdderFigures
pub mod Claims
pub mod Figures
-- What they and the proofs of the functions rest on:
pub mod Rules
pub mod Refusals
pub mod Passed
pub mod Given
pub mod Adders
pub mod Evaluation
pub mod Booleans
pub mod RowTests
pub mod Multiples
pub mod Items
pub mod Tables
