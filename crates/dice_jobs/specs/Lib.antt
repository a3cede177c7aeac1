pub mod Jobs
pub mod Shapes
pub mod Courses
pub mod Truths
pub mod Alike
