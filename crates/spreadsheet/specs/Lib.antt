pub mod Formulas
pub mod Sheet
pub mod Laws
