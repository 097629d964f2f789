mod HandingLemmas
mod OpeningLemmas
mod SafetyLemmas
mod StepLemmas
mod TimerLemmas
mod WaitingLemmas
