pub mod Runs
pub mod Doing
pub mod Passing
pub mod Receiving
pub mod Turning
pub mod Others
pub mod Placing
pub mod Calling
