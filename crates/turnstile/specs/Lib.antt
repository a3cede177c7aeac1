pub mod Events
pub mod Seats
pub mod Rule
pub mod Steps
pub mod InTurn
