pub mod Drafts
pub mod Endings
pub mod FirstWords
pub mod NodeLists
pub mod SetupLines
