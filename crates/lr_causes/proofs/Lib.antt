pub mod Counting
pub mod Joining
pub mod Results
mod Statuses
