pub mod Parts
pub mod Findings
pub mod Sameness
pub mod Steps
