pub mod Scans
pub mod Padded
pub mod Answers
