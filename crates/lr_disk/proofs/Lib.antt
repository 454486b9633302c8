pub mod KeeperLemmas
pub mod Moments
pub mod Pieces
pub mod RangeLemmas
pub mod ReadRuns
pub mod Steps
pub mod StopLemmas
