pub mod Alls
pub mod BitLemmas
pub mod CaseLemmas
pub mod CountLemmas
pub mod DistinctLemmas
pub mod EqualLemmas
pub mod FoundLemmas
pub mod ListLemmas
mod MarkLemmas
pub mod MemberLemmas
pub mod NumberLemmas
pub mod Octets
pub mod OutboxLemmas
pub mod PartLemmas
pub mod PostLemmas
mod Readings
mod SumLemmas
pub mod TableLemmas
mod TextLemmas
mod Spellings
