pub mod Fixing
pub mod Agreeing
pub mod Strips
pub mod Borders
pub mod Forms
pub mod Telling
pub mod Laws
