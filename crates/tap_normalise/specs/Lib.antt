pub mod Normalised
