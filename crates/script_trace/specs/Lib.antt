pub mod Output
pub mod Events
pub mod Tracing
