pub mod Accounted
pub mod Counts
pub mod Legals
