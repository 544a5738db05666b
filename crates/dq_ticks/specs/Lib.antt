pub mod Digits
pub mod Keys
pub mod Lengths
pub mod Order
pub mod Places
pub mod Units
pub mod Word
