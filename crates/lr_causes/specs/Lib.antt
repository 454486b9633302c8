pub mod Causes
pub mod Counts
pub mod Faults
pub mod Kinds
pub mod Outside
pub mod Puts
