pub mod Shifts
pub mod Lefts
pub mod FirstOver
pub mod Tries
pub mod Signs
