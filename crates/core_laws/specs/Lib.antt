pub mod Tasks
pub mod Stands
pub mod Changes
pub mod Promises
pub mod Desk
