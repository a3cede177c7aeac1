pub mod CycleLemmas
pub mod WayLemmas
pub mod AboveLemmas
