pub mod Giving
pub mod Holding
pub mod Plain
pub mod Rising
pub mod Turning
