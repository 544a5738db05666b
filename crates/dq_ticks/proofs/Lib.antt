pub mod Bits
pub mod Laws
pub mod Levels
pub mod Starts
