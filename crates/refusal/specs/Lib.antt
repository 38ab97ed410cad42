pub mod Table
pub mod Answer
pub mod Claims
