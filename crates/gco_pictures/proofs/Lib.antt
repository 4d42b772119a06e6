pub mod Handing
pub mod InRange
pub mod Refusing
