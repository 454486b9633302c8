pub mod Alike
pub mod Covered
pub mod Digits
pub mod OneThread
pub mod Taken
pub mod Writing
