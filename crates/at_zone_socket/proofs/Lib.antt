mod AnsweringLemmas
mod AtOnceLemmas
mod BeginLemmas
mod FaultLemmas
mod ListLemmas
pub mod Opened
mod PageLemmas
mod ReadingLemmas
mod RequesterLemmas
mod ResponderLemmas
mod TurningLemmas
