pub mod Accounts
pub mod Counters
