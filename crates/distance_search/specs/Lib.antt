pub mod LabelSearches
