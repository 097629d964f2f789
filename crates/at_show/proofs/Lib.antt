pub mod ShownLemmas
mod WordLemmas
