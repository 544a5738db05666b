pub mod Views
pub mod Rule
pub mod Plays
pub mod Seats
pub mod Rolls
pub mod Lines
pub mod Turns
pub mod Law
