mod Columns
mod Runs
