pub mod WordLemmas
pub mod NumberLemmas
pub mod Tables
pub mod Fates
pub mod Taken
pub mod Reached
pub mod Laws
pub mod NoneGivenUp
