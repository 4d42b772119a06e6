pub mod Ends
pub mod Runs
pub mod Rounds
pub mod Seats
