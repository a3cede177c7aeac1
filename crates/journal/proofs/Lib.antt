pub mod Lawful
pub mod Counts
pub mod Indices
pub mod Example
pub mod Words
pub mod WordsEpochs
pub mod WordsAsked
pub mod Worked
