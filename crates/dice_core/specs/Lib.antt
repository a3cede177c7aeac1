pub mod Askings
pub mod Closings
pub mod Commits
pub mod Cores
pub mod Givings
pub mod Joinings
pub mod Sessions
pub mod Staying
