mod Passed
mod Unchanged
