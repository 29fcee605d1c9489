-- Fields of bytes, read (Fields) and written (Put), and the check of a block (Sum).
pub mod Block
pub mod Fields
pub mod Put
pub mod Sum
