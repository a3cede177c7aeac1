pub mod Few
pub mod Held
pub mod Kept
pub mod SmallMap
