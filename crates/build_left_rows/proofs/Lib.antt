pub mod NamedRows
pub mod Turns
pub mod Sifted
