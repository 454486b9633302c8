pub mod Coded
pub mod Costs
pub mod Fronts
pub mod Laws
pub mod Refusals
pub mod Repacked
pub mod Shortest
pub mod Writing
