mod CutLemmas
mod EndLemmas
mod EventLemmas
pub mod FaultLemmas
mod HeadLemmas
pub mod LineLemmas
mod OrderLemmas
pub mod ReadLemmas
pub mod WholeLemmas
