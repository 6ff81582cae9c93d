pub mod Accounts
pub mod Legal
