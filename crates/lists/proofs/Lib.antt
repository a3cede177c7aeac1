pub mod Members
pub mod Distinct
pub mod Each
pub mod Places
pub mod Options
pub mod Lines
