-- The meaning of a script, and what its replay may read, write and answer.
pub mod Text
pub mod Tokens
pub mod Fault
pub mod Lines
pub mod Script
pub mod Order
pub mod Replay
pub mod Leases
pub mod LeasesState
pub mod SessionState
