pub mod Contents
pub mod Leading
pub mod Driven
pub mod Outcomes
pub mod Queues
pub mod Render
pub mod Rendered
