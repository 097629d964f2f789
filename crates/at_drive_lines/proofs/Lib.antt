mod BeginLemmas
mod BodyLemmas
pub mod LineLemmas
mod NodeLineLemmas
mod RefusalLemmas
pub mod StepLemmas
mod StepLineLemmas
mod TakeLemmas
mod TextLemmas
