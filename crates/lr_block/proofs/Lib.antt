pub mod Interleaving
pub mod Outcomes
pub mod Searching
pub mod Sequence
