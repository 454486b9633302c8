pub mod Bounds
pub mod Misses
pub mod Steps
pub mod Strings
pub mod Unique
