pub mod PartLemmas
pub mod ThreeLemmas
pub mod WeightLemmas
pub mod CapacityLemmas
pub mod TermLemmas
pub mod Composes
pub mod Best
pub mod TiedLemmas
