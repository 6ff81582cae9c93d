-- When the items of lists expire: what each change of the lists makes of that, and how it is collected anew.
pub mod Changes
pub mod Collects
pub mod Entries
pub mod Walk
