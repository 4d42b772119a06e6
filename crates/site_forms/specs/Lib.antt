pub mod Forms
pub mod MoveForms
pub mod Fields
pub mod Numbers
