pub mod Form
pub mod Listing
pub mod Reduction
