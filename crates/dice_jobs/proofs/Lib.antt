pub mod Agreed
pub mod Followed
pub mod Replayed
pub mod Readied
pub mod Ended
pub mod TruthLemmas
pub mod AlikeLemmas
