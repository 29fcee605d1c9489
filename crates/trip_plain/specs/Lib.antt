-- What the plain trip answers and leaves (Plain).
pub mod Plain
