pub mod Bounds
pub mod Building
pub mod Sheets
pub mod Example
pub mod Claims
