pub mod Refused
pub mod Running
pub mod Courses
pub mod UnderWay
