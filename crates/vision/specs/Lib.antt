pub use Rattle.run_options.specs.Limits
pub use Rattle.run_options.specs.Names
pub use Rattle.run_options.specs.Ranges
pub use Rattle.run_options.specs.Shapes
pub mod Problems
pub mod Jobs
pub mod Inputs
pub mod Faults
