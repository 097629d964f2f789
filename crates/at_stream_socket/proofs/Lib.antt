mod CallLemmas
mod HearLemmas
mod MakingLemmas
mod NumberLemmas
