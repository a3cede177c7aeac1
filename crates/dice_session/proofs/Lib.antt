pub mod Sole
pub mod Zipped
