-- Lemmas on the meaning of a script.
mod Digits
mod Known
mod Reading
mod Splits
mod Steps
mod Ends
mod Outcomes
mod LineRuns
mod Whole
pub mod Orders
mod Ordered
mod Sorted
mod LiveSlots
mod Keyed
mod Runs
mod Refused
mod KeyRefused
mod Tied
mod KeyCalls
mod Roomy
mod Moves
mod Calls
mod Expiry
