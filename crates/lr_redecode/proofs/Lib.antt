pub mod Agreeing
pub mod First
pub mod FourWords
pub mod Rounds
pub mod Staying
