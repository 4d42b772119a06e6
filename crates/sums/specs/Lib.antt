pub mod Sums
pub mod IntegerSums
