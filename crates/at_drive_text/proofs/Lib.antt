mod CourseLemmas
mod CourseMoves
mod CountLemmas
mod NewsLemmas
mod TellsLemmas
