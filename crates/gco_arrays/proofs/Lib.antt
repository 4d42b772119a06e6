pub mod Entries
pub mod Given
pub mod Lists
pub mod Numbers
pub mod PairCosts
pub mod PairParts
pub mod Parts
