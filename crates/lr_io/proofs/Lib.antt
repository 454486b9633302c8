pub mod Moving
pub mod PlaceLemmas
pub mod Putting
