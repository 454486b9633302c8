pub mod Coded
pub mod Counting
pub mod OneOutcome
pub mod Plain
pub mod Planning
pub mod Steps
pub mod Whole
