pub mod Meaning
pub mod Lawful
pub mod Fronts
pub mod Same
pub mod Shared
