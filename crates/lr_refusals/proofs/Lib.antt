pub mod Answering
pub mod Entries
