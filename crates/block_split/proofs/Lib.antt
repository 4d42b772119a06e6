mod Numbers
mod Grouped
mod Spots
pub mod Spans
mod Once
mod Made
mod Splitting
mod Ordered
mod Opened
mod Sorted
