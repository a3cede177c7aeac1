pub mod Recordings
pub mod Checks
