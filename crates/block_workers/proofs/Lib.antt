pub mod Reading
pub mod Looking
pub mod Working
pub mod Passing
pub mod Places
pub mod RingEnds
