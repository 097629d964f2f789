mod RequesterLemmas
pub mod ResponderLemmas
mod SentLemmas
pub mod ServingLemmas
