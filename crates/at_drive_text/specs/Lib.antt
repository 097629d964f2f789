pub mod Courses
pub mod Driven
pub mod Told
