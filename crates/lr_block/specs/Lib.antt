pub mod Blocks
pub mod Outcomes
pub mod Randomiser
