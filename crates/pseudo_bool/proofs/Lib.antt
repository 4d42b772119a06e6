mod RowLemmas
mod TableLemmas
mod HiddenLemmas
pub mod RefusalLemmas
