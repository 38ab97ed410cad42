pub mod High
pub mod Places
pub mod Adding
pub mod OneMore
pub mod Both
pub mod Empty
