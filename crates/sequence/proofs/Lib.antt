pub mod UpTo
pub mod Count
pub mod Front
pub mod Members
pub mod Ordered
