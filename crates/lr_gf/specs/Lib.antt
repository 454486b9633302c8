pub mod Sums
pub mod Field
pub mod Dual
pub mod Systems
pub mod RowOperations
