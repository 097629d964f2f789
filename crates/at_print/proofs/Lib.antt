mod NameLineLemmas
pub mod PrintLemmas
pub mod ReportLemmas
mod StreamLemmas
