pub mod Sum
pub mod UpTo
pub mod Count
pub mod Inner
