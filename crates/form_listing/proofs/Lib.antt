pub mod Listed
pub mod Machine
pub mod Entry
