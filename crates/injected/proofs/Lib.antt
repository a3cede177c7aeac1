pub mod Histories
pub mod Lookups
pub mod Numbered
pub mod Walks
pub mod Rounds
pub mod Maps
pub mod Orders
pub mod LogLemmas
mod Singles
