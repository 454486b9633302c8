pub mod Arguments
pub mod Commands
pub mod Lines
pub mod Numbers
pub mod Shapes
pub mod Values
pub mod Words
