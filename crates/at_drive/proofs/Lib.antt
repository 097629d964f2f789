mod CountLemmas
mod NodeLemmas
mod PlayLemmas
mod RunLemmas
mod SafetyLemmas
mod SendLemmas
