pub mod Fresh
pub mod Laws
pub mod Looking
pub mod Working
pub mod Changes
pub mod SideBySide
