-- What specs/Claims.antt states:
pub mod Claims
-- Laws on checks and places:
pub mod Lowest
pub mod Checks
