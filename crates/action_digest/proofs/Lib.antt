pub mod Lists
pub mod Endings
pub mod Labels
pub mod Asking
pub mod Mentioned
pub mod Reached
pub mod Rounds
pub mod Turning
