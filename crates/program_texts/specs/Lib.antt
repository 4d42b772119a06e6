pub mod Answer
pub mod FaultLine
pub mod Faults
pub mod Lines
pub mod Refusals
pub mod Writing
