pub mod WorkerPools
pub mod JobSources
pub mod Rounds
