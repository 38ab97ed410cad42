pub mod SumTests
pub mod TapTests
