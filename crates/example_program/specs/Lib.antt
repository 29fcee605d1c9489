-- For the program, which drives one road by its points.
pub mod Road
