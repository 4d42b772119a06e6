pub use Rattle.flow_network.specs.Cut
pub use Rattle.flow_network.specs.Preflow
pub use Rattle.flow_network.specs.Answer
pub use Rattle.flow_network.specs.Limits
