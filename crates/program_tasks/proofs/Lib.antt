mod EnergyFaults
pub mod FaultKinds
mod InputLemmas
mod TaskLemmas
mod PictureLemmas
mod LabelFaults
mod NamedRuns
