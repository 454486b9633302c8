pub mod FileLaws
pub mod Fitting
pub mod Histories
pub mod KeyLemmas
pub mod OpenLemmas
pub mod Stretches
