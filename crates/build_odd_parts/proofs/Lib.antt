pub mod Rises
pub mod Places
pub mod InOrder
pub mod Taken
