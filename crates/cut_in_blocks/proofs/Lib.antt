pub mod Taking
pub mod Lowering
pub mod Answering
pub mod Ending
pub mod Turned
mod Going
pub mod Opened
mod Still
mod Passing
pub mod Residuals
pub mod Logs
pub mod Seated
pub mod Acts
pub mod TakeSteps
pub mod BlockHistories
pub mod Starts
pub mod Runs
pub mod Laid
pub mod Loosely
pub mod Starting
pub mod Beside
pub mod Together
pub mod Joined
pub mod Rounds
pub mod BlockPlaces
pub mod Quiet
