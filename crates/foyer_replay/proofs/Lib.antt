pub mod Counting
mod IdleLemmas
mod Places
