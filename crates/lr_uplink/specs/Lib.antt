pub mod Agreeing
pub mod Packets
pub mod Pieces
pub mod Progress
pub mod Received
pub mod Sent
pub mod Standing
