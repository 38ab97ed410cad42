-- What specs/Claims.antt and specs/Figures.antt state:
pub mod Claims
pub mod Figures
-- Planes and strings:
pub mod Lists
pub mod Binary
pub mod Planes
pub mod Strings
pub mod Held
pub mod Answers
