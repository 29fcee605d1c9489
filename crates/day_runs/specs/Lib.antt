-- The laws of code that reads point after point of a day (Reading, Filling, Bounds).
pub mod Reading
pub mod Filling
pub mod Bounds
