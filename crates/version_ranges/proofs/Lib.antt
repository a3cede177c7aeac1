pub mod Bools
pub mod Ends
pub mod Appends
pub mod Merges
pub mod Searches
pub mod Canonical
pub mod Rounds
pub mod Places
