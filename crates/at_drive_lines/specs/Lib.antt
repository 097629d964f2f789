pub mod Drafts
pub mod Lines
pub mod NodeLines
pub mod Says
pub mod StepLines
