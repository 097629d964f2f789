pub mod OutcomeLemmas
pub mod PostLemmas
pub mod ServedLemmas
