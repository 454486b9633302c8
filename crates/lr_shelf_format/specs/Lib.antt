pub mod Gates
pub mod Header
pub mod Items
pub mod Record
pub mod ShelfBytes
pub mod Walk
pub mod Way
