pub mod Calls
pub mod Energies
pub mod PairCalls
pub mod PairRefusals
pub mod Refusals
pub mod Statuses
pub mod TermRefusals
