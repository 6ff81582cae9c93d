pub mod Faults
pub mod Looks
