pub mod SumLemmas
pub mod IntegerSumLemmas
