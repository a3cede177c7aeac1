pub mod Spelled
pub mod Bulk
