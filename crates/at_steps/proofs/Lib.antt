mod Coming
mod Drawing
mod Entries
mod Foreign
mod Kept
mod Protocols
mod Safety
mod Sessions
