mod AskedLemmas
mod BufferLemmas
mod CaptureLemmas
mod DatagramLemmas
mod RoleLemmas
mod StationLemmas
mod TallyLemmas
