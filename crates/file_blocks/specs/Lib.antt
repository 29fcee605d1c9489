-- What the contracts of this crate say, one subject a module, in the order in which they build on each other.
pub mod Kind
pub mod Place
pub mod Laid
pub mod Table
pub mod Pairs
pub mod Walk
