pub mod Sending
pub mod Transmitting
