pub mod Digits
mod HexLemmas
mod NumberLemmas
mod PairLemmas
mod TextLemmas
mod WordLemmas
