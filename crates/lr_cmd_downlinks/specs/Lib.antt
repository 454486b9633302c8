pub mod Downlinks
pub mod Lines
pub mod Taking
pub mod Told
