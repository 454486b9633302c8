pub mod Convolution
pub mod Encoder
pub mod Levels
pub mod LineEncoder
pub mod Marker
pub mod Passes
pub mod Symbols
