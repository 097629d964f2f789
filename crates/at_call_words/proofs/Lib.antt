mod CallLemmas
mod DotLemmas
mod ItemLemmas
mod PacketLemmas
mod RequesterLemmas
mod WordLemmas
