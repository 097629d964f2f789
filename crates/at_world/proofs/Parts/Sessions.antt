-- How the sessions of the nodes' users follow each event: their tie and their steps.
pub mod Finds
pub mod Opening
pub mod Steps
pub mod Tie
