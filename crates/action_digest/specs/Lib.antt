pub mod Written
pub mod Actions
pub mod Buck
pub mod Same
pub mod Hashed
pub mod Laws
pub mod Fronts
pub mod Cycles
