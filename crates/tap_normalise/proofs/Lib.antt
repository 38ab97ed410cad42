pub mod Usable
