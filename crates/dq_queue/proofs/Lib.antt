pub mod Claims
pub mod Histories
pub mod JournalSteps
pub mod Leaving
pub mod Lending
pub mod Outs
pub mod Runs
pub mod Totals
