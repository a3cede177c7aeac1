pub mod Ops
pub mod Rows
pub mod Rule
pub mod Ends
