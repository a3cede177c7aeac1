pub mod History
pub mod Kept
pub mod Numbers
pub mod Seen
pub mod Inputs
pub mod Rounds
