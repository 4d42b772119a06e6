pub mod PairSides
pub mod ToldRows
pub mod Lists
pub mod OwnRises
