pub mod Answers
pub mod Short
pub mod FormNumbers
