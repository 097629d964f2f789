pub mod KeyedLemmas
pub mod PlaceLemmas
pub mod TableLemmas
