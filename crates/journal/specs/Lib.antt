pub mod Events
pub mod Law
pub mod Shape
pub mod Tell
pub mod Texts
pub mod Words
pub mod Worked
