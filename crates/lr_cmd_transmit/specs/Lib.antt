pub mod Received
pub mod Standing
pub mod Transmit
