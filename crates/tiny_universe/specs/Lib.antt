pub mod Tiny
pub mod Laws
pub mod Same
pub mod Fronts
