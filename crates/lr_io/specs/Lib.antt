pub mod MemSink
pub mod MemSource
pub mod Pieces
pub mod Places
pub mod Streams
pub mod SureSource
