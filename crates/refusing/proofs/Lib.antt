mod Asked
mod Counted
mod Handle
mod Steps
