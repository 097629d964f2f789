mod AccountLemmas
mod EventLists
mod HeldLemmas
pub mod LineLemmas
mod ReportLemmas
mod RunLemmas
mod SentLemmas
pub mod TextLines
pub mod ToldLemmas
pub mod WholePlays
