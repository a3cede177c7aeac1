pub mod Asked
pub mod Seen
pub mod Numbers
pub mod Listed
pub mod Askers
pub mod Lent
pub mod Above
