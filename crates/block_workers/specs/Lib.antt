pub mod RingEnds
pub mod Ports
pub mod Seeing
pub mod Ends
pub mod Book
pub mod Turns
pub mod Workers
