pub mod Problems
pub mod Cycles
pub mod Courses
pub mod UnderWay
pub mod Bookmarks
pub mod Remembered
pub mod Prelude
