-- What makes a file that is laid out a well-formed plan.
pub mod Good
