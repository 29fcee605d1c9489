-- The file of a network (Encode), what the writing of it requires (Packable), and the laws for the code: a
-- block (Entries, BlockWritten), and the file written block by block (Written).
pub mod Encode
pub mod Packable
pub mod Entries
pub mod BlockWritten
pub mod Written
