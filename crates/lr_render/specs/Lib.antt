pub mod Giving
pub mod Keeping
pub mod Laws
pub mod Making
pub mod Plans
pub mod Standing
pub mod Strips
pub mod Tiling
